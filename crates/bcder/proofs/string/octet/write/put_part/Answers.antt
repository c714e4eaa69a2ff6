use Rattle.std.proofs.Common.{◌++◌, length, sym, ap, arith}
use Rattle.std.proofs.lemmas.List.{take_rest, length-drop}
use Rattle.bcder.proofs.Segmenting.{advanced_on, advanced_to, advanced_failed, front_written, front_failed, part_halts}
use Rattle.bcder.proofs.string.octet.write.put_part.Goals as goal

pub returns-in_err-begun : goal.returns-in_err-begun
returns-in_err-begun g c = part_halts c.args.progress c.args.part.now _ c.from_residual.ensures (λ v at.
    let x = c.loop-rest.invariant.so_far v at in
    advanced_failed x (c.in_err-begun.ensures _ x.progress))

pub returns-in_err-put_all : goal.returns-in_err-put_all
returns-in_err-put_all g c = part_halts c.args.progress c.args.part.now _ c.from_residual-in_err-put_all.ensures (λ v at.
    let x = c.loop-rest.invariant.so_far v at in
    let y = advanced_on x (c.in_ok-begun.ensures.2 _ x.progress) in
    advanced_failed y (front_failed c.in_ok-begun.begun _ c.loop-rest.rest.now v (omega (arith, c.min-count.ensures))
    (omega (arith, c.min-count.ensures)) c.in_err-put_all.ensures))

pub loop-rest-preserved : goal.loop-rest-preserved
loop-rest-preserved g c =
    let rest = c.loop-rest.rest.now in
    let k = c.min-count.result in
    let left = take_rest rest k in
    record {
      fits = omega (arith, ap length left, length-drop k rest, c.in_ok-begun.ensures.1, c.min-count.ensures);
      so_far = λ v at.
          let x = c.loop-rest.invariant.so_far v at in
          let y = advanced_on x (c.in_ok-begun.ensures.2 _ x.progress) in
          let z = advanced_on y (front_written c.in_ok-begun.begun k rest v (omega (arith, c.min-count.ensures))
          (omega (arith, c.min-count.ensures)) y.progress c.in_ok-put_all.ensures.done) in
          advanced_to (ap (λ l. l ++ v) (sym left)) z;
    }
