use Rattle.berconv.proofs.Blocks.{all_converted, one_converted, one_refused}
use Rattle.berconv.proofs.run.append_blocks.Goals as goal

pub loop-block-preserved : goal.loop-block-preserved
loop-block-preserved c = one_converted c.args.request c.args.octets.now c.loop-block.rest.now c.args.text.now.items c.loop-block.text.items
    c.append_from_block.new.text.items c.in-Some.block c.loop-block.invariant c.in-Some.ensures.next c.in-Ok.ensures.appended

pub returns-in-Err-clause-refused : goal.returns-in-Err-clause-refused
returns-in-Err-clause-refused c = one_refused c.args.request c.args.octets.now c.loop-block.rest.now c.args.text.now.items c.loop-block.text.items
    c.in-Some.block c.in-Err.refusal c.loop-block.invariant c.in-Some.ensures.next c.in-Err.ensures.refused

pub returns-clause-appended : goal.returns-clause-appended
returns-clause-appended c = all_converted c.args.request c.args.octets.now c.loop-block.rest.now c.args.text.now.items c.loop-block.text.items
    c.loop-block.invariant c.in_default.ensures.none
