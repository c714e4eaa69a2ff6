use Rattle.std.proofs.Common.{subst}
use Rattle.cli.specs.Pem.{HasBlocks, IsNext}
use Rattle.berdump.specs.Runs.{IsFirst}
use Rattle.berdump.proofs.Running.{first_written}
use Rattle.berdump.proofs.value.run.Goals as goal

pub returns-then-has_blocks-clause-written : goal.returns-then-has_blocks-clause-written
returns-then-has_blocks-clause-written g c = λ z.
    let (block, v, first, has, written) = c.run_block.ensures.written z in
    first_written c.args.request c.args.at c.args.inputs.now c.input-item.result (g.W.Write.contents c.args.out.now) (g.W.Write.contents c.run_block.new.out)
    c.in-len1-up.len_at_least c.input-item.is (rw c.in-Ok.is (
      v,
      IsFirst.block
          (subst (λ w. HasBlocks c.args.request.form w) c.deref.ensures.value (c.has_blocks.ensures.yes c.if-has_blocks.true)) block
          (subst (λ w. IsNext w block) c.deref-then-has_blocks.ensures.value first) has,
      written,
    ))
