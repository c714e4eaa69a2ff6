use Rattle.std.proofs.Common.{◌≡◌, rules, arith}
use Rattle.std.proofs.lemmas.Grind.{common_steps}
use Rattle.cli.specs.declared.status.Status.TheVariants.{Failed}
use Rattle.bercheck.proofs.Going.{goes_fails, goes_on}
use Rattle.bercheck.proofs.Files.{either_broken, file_broken, file_right, others_broken}
use Rattle.bercheck.proofs.run.run_inputs.Goals as goal

pub returns-then-eq-clause-goes : goal.returns-then-eq-clause-goes
returns-then-eq-clause-goes g c =
    let e : c.run_input-found.result ≡ Failed = first_of (search rules, grind (arith, common_steps, c.eq.ensures, c.if-eq.true)) in
    goes_fails (g.W.Write.contents c.args.out.now) (g.W.Write.contents c.loop-rest.out) (g.W.Write.contents c.run_input-found.new.out)
    (g.E.Write.contents c.args.err.now)
    (g.E.Write.contents c.loop-rest.err) (g.E.Write.contents c.run_input-found.new.err) c.loop-rest.status c.run_input-found.result
    c.loop-rest.invariant.goes c.run_input-found.ensures.goes e

pub loop-rest-preserved : goal.loop-rest-preserved
loop-rest-preserved g c = record {
  goes = goes_on (g.W.Write.contents c.args.out.now) (g.W.Write.contents c.loop-rest.out) (g.W.Write.contents c.run_input-found.new.out)
      (g.E.Write.contents c.args.err.now)
      (g.E.Write.contents c.loop-rest.err) (g.E.Write.contents c.run_input-found.new.err) c.loop-rest.status c.run_input-found.result c.and-status.result
      c.loop-rest.invariant.goes c.run_input-found.ensures.goes c.and-status.ensures.both.0 c.and-status.ensures.either;
  right = λ z k. let p = c.and-status.ensures.both.0 z in
      c.loop-rest.invariant.right p.0 (file_right c.args.request c.loop-rest.rest.now c.input-item.result c.in-len1-up.len_at_least c.input-item.is
      (c.run_input-found.ensures.right p.1) k);
  among = λ k. c.loop-rest.invariant.among
      (others_broken c.args.request c.loop-rest.rest.now c.input-item.result c.in-len1-up.len_at_least c.input-item.is k);
  broken = either_broken c.loop-rest.status c.run_input-found.result c.and-status.result c.and-status.ensures.either c.loop-rest.invariant.broken
      (λ z. c.loop-rest.invariant.among (file_broken c.args.request c.loop-rest.rest.now c.input-item.result c.in-len1-up.len_at_least c.input-item.is
      (c.run_input-found.ensures.broken z)));
}
