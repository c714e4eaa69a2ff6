use Rattle.std.proofs.Common.{length}
use Rattle.berconv.proofs.Blocks.{Converted}
use Rattle.berconv.proofs.run.append_blocks.Given as goal

abbrev pub invariant-loop-block : goal.invariant-loop-block
invariant-loop-block l = Converted l.request l.octets l.rest l.initial.text.items l.text.items

abbrev pub decreases-loop-block : goal.decreases-loop-block
decreases-loop-block l = length l.rest
