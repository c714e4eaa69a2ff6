use Rattle.std.proofs.Common.{◌≡◌, ◌++◌, ap, sym, ◌∙◌, append_assoc}
use Rattle.std.specs.List.{concat}
use Rattle.std.proofs.KnownBytes.{Appends-trans}
use Rattle.bcder.proofs.Writing.{halts, stops, follows_on, same_octets}
use Rattle.bcder.proofs.Segmenting.{appended}
use Rattle.bcder.proofs.string.octet.write.put_parts.Goals as goal

pub loop-part-preserved : goal.loop-part-preserved
loop-part-preserved g c =
    let (done, split, before) = c.loop-part.invariant in
    let part = c.in-Some.part.now in (
      done ++ part,
      split ∙ ap (λ l. done ++ concat l) c.in-Some.ensures.steps ∙ sym (append_assoc done part (concat c.next.new.self)),
      Appends-trans _ _ _ _ _ before c.in_ok-put_all.ensures.done,
    )

pub returns-in_err-put_all : goal.returns-in_err-put_all
returns-in_err-put_all g c =
    let (done, split, before) = c.loop-part.invariant in
    let same : c.into_iter-part-iterator.result ≡ c.args.parts = cc in
    let failed = follows_on (appended before) (stops (concat c.next.new.self) c.in_err-put_all.ensures) in
    halts _ c.from_residual.ensures (same_octets (ap (λ l. done ++ concat l) (sym c.in-Some.ensures.steps) ∙ sym split ∙ ap concat same) failed)
