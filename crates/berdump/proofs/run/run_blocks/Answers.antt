use Rattle.std.proofs.Common.{◌≢◌, refl, rules, arith}
use Rattle.std.proofs.lemmas.Grind.{common_steps}
use Rattle.std.proofs.KnownBytes.{Keeps-trans}
use Rattle.cli.specs.declared.status.Status.TheVariants.{Failed}
use Rattle.berdump.proofs.Running.{bound_next, bound_fails, not_failed, blocks_none, next_block}
use Rattle.berdump.proofs.run.run_blocks.Goals as goal

pub returns-then-eq-clause-bound : goal.returns-then-eq-clause-bound
returns-then-eq-clause-bound g c = bound_fails c.args.request.scope c.args.request.mode (g.W.Write.contents c.args.out.now)
    (g.W.Write.contents c.loop-block.out) (g.W.Write.contents c.run_block-found.new.out) c.loop-block.status c.run_block-found.result Failed
    c.loop-block.invariant.0 c.loop-block.invariant.1 c.run_block-found.ensures.bound refl

pub loop-block-preserved : goal.loop-block-preserved
loop-block-preserved g c =
    let n : c.run_block-found.result ≢ Failed = first_of (search rules, grind (arith, common_steps, c.eq.ensures, c.if-eq.false)) in (
      bound_next c.args.request.scope c.args.request.mode (g.W.Write.contents c.args.out.now) (g.W.Write.contents c.loop-block.out)
          (g.W.Write.contents c.run_block-found.new.out) c.loop-block.status c.run_block-found.result c.and-status.result
          c.loop-block.invariant.0 c.loop-block.invariant.1 c.run_block-found.ensures.bound n c.and-status.ensures.both.0,
      not_failed c.loop-block.status c.run_block-found.result c.and-status.result c.and-status.ensures.either c.loop-block.invariant.1 n,
      λ z. Keeps-trans (g.E.Write.contents c.args.err.now) (g.E.Write.contents c.loop-block.err) (g.E.Write.contents c.run_block-found.new.err)
          (c.loop-block.invariant.2 (c.and-status.ensures.both.0 z).0) (c.run_block-found.ensures.silent (c.and-status.ensures.both.0 z).1),
      next_block c.args.request c.loop-block.is_first c.args.octets.now c.loop-block.rest.now c.in-Some-next_block.block (g.W.Write.contents c.args.out.now)
          (g.W.Write.contents c.loop-block.out) (g.W.Write.contents c.run_block-found.new.out) c.loop-block.status c.run_block-found.result c.and-status.result
          c.and-status.ensures.both.0 c.loop-block.invariant.3 c.in-Some-next_block.ensures.next c.run_block-found.ensures.listed,
    )

pub returns-clause-listed : goal.returns-clause-listed
returns-clause-listed g c = λ z. c.loop-block.invariant.3 z (g.W.Write.contents c.loop-block.out)
    (blocks_none c.args.request c.loop-block.is_first c.loop-block.rest.now (g.W.Write.contents c.loop-block.out) c.in_default-next_block.ensures.none)
