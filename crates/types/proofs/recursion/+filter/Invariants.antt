use Rattle.std.proofs.Common.{◌+◌, ◌*◌}
use Rattle.types.proofs.recursion.+filter.Given as goal

abbrev pub decreases-filter_of : goal.decreases-filter_of
decreases-filter_of l = l.levels * 2

abbrev pub decreases-filters_of : goal.decreases-filters_of
decreases-filters_of l = l.levels * 2 + 1
