use Rattle.std.proofs.Common.{◌≡◌, rules, arith}
use Rattle.std.proofs.lemmas.Grind.{common_steps}
use Rattle.cli.specs.declared.status.Status.TheVariants.{Failed}
use Rattle.bercheck.proofs.Going.{goes_fails, goes_on}
use Rattle.bercheck.proofs.Files.{among_more, block_broken, block_right, either_broken}
use Rattle.bercheck.proofs.run.run_blocks.Goals as goal

pub returns-then-eq-clause-goes : goal.returns-then-eq-clause-goes
returns-then-eq-clause-goes g c =
    let e : c.run_block-found.result ≡ Failed = first_of (search rules, grind (arith, common_steps, c.eq.ensures, c.if-eq.true)) in
    goes_fails (g.W.Write.contents c.args.out.now) (g.W.Write.contents c.loop-block.out) (g.W.Write.contents c.run_block-found.new.out)
    (g.E.Write.contents c.args.err.now)
    (g.E.Write.contents c.loop-block.err) (g.E.Write.contents c.run_block-found.new.err) c.loop-block.status c.run_block-found.result
    c.loop-block.invariant.goes c.run_block-found.ensures.goes e

pub loop-block-preserved : goal.loop-block-preserved
loop-block-preserved g c = record {
  goes = goes_on (g.W.Write.contents c.args.out.now) (g.W.Write.contents c.loop-block.out) (g.W.Write.contents c.run_block-found.new.out)
      (g.E.Write.contents c.args.err.now)
      (g.E.Write.contents c.loop-block.err) (g.E.Write.contents c.run_block-found.new.err) c.loop-block.status c.run_block-found.result c.and-status.result
      c.loop-block.invariant.goes c.run_block-found.ensures.goes c.and-status.ensures.both.0 c.and-status.ensures.either;
  right = λ z k. let p = c.and-status.ensures.both.0 z in
      c.loop-block.invariant.right p.0 (block_right c.args.request c.loop-block.rest.now c.in-Some.block c.in-Some.ensures.next
      (c.run_block-found.ensures.right p.1) k);
  among = among_more c.args.octets.now c.loop-block.rest.now c.in-Some.block c.in-Some.ensures.next c.loop-block.invariant.among;
  broken = either_broken c.loop-block.status c.run_block-found.result c.and-status.result c.and-status.ensures.either c.loop-block.invariant.broken
      (λ z. block_broken c.args.request c.args.octets.now c.loop-block.rest.now c.in-Some.block c.in-Some.ensures.next
      c.loop-block.invariant.among (c.run_block-found.ensures.broken z));
}
