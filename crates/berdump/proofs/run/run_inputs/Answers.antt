use Rattle.std.proofs.Common.{◌≢◌, ◌==◌, ◌<◌, length, refl, rules, arith}
use Rattle.std.proofs.lemmas.Grind.{common_steps}
use Rattle.std.proofs.KnownBytes.{Keeps-trans}
use Rattle.cli.specs.declared.status.Status.TheVariants.{Failed}
use Rattle.berdump.proofs.Running.{bound_next, bound_fails, not_failed, next_file}
use Rattle.berdump.proofs.run.run_inputs.Goals as goal

pub returns-then-eq-clause-bound : goal.returns-then-eq-clause-bound
returns-then-eq-clause-bound g c = bound_fails c.args.request.scope c.args.request.mode (g.W.Write.contents c.args.out.now)
    (g.W.Write.contents c.loop-input.out) (g.W.Write.contents c.run_input-found.new.out) c.loop-input.status c.run_input-found.result Failed
    c.loop-input.invariant.0 c.loop-input.invariant.1 c.run_input-found.ensures.bound refl

pub loop-input-preserved : goal.loop-input-preserved
loop-input-preserved g c =
    let n : c.run_input-found.result ≢ Failed = first_of (search rules, grind (arith, common_steps, c.eq.ensures, c.if-eq.false)) in
    let k : c.loop-input.input-index < length c.args.inputs.now = first_of (search rules, omega arith) in (
      bound_next c.args.request.scope c.args.request.mode (g.W.Write.contents c.args.out.now) (g.W.Write.contents c.loop-input.out)
          (g.W.Write.contents c.run_input-found.new.out) c.loop-input.status c.run_input-found.result c.and-status.result
          c.loop-input.invariant.0 c.loop-input.invariant.1 c.run_input-found.ensures.bound n c.and-status.ensures.both.0,
      not_failed c.loop-input.status c.run_input-found.result c.and-status.result c.and-status.ensures.either c.loop-input.invariant.1 n,
      λ z. Keeps-trans (g.E.Write.contents c.args.err.now) (g.E.Write.contents c.loop-input.err) (g.E.Write.contents c.run_input-found.new.err)
          (c.loop-input.invariant.2 (c.and-status.ensures.both.0 z).0) (c.run_input-found.ensures.silent (c.and-status.ensures.both.0 z).1),
      next_file c.args.request (length c.args.inputs.now == 1) c.loop-input.is_first c.stays_first-is_first.result c.args.inputs.now c.loop-input.input-index
          c.input-item.result (g.W.Write.contents c.args.out.now) (g.W.Write.contents c.loop-input.out) (g.W.Write.contents c.run_input-found.new.out)
          c.loop-input.status c.run_input-found.result c.and-status.result c.and-status.ensures.both.0 c.loop-input.invariant.3 k c.input-item.is
          c.run_input-found.ensures.file c.stays_first-is_first.ensures,
    )
