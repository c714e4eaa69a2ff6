use Rattle.std.proofs.Common.{◌+◌, ◌*◌}
use Rattle.types.proofs.trees.+written.Given as goal

abbrev pub decreases-written : goal.decreases-written
decreases-written l = l.levels * 2

abbrev pub decreases-all_written : goal.decreases-all_written
decreases-all_written l = l.levels * 2 + 1
