use Rattle.std.proofs.Common.{length}
use Rattle.certdump.proofs.run.show_blocks.Given as goal

abbrev pub invariant-loop-block : goal.invariant-loop-block
invariant-loop-block l = Unit {0}

abbrev pub decreases-loop-block : goal.decreases-loop-block
decreases-loop-block l = length l.rest
