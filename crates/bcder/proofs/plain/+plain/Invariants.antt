use Rattle.std.proofs.Common.{◌+◌, ◌*◌, length}
use Rattle.bcder.proofs.Levels.{InList, InOpen}
use Rattle.bcder.proofs.plain.+plain.Given as goal

abbrev pub decreases-value_within : goal.decreases-value_within
decreases-value_within l = 3 * length l.octets.now + 1

abbrev pub decreases-front_within : goal.decreases-front_within
decreases-front_within l = 3 * length l.octets.now

abbrev pub decreases-is_list_within : goal.decreases-is_list_within
decreases-is_list_within l = 3 * length l.octets.now + 2

abbrev pub invariant-is_list_within-loop-rest : goal.invariant-is_list_within-loop-rest
invariant-is_list_within-loop-rest l = InList l.fn.mode l.fn.octets l.rest

abbrev pub decreases-is_list_within-loop-rest : goal.decreases-is_list_within-loop-rest
decreases-is_list_within-loop-rest l = length l.rest

abbrev pub invariant-value_within-loop-depth : goal.invariant-value_within-loop-depth
invariant-value_within-loop-depth l = InOpen l.fn.mode l.fn.octets l.depth l.rest

abbrev pub decreases-value_within-loop-depth : goal.decreases-value_within-loop-depth
decreases-value_within-loop-depth l = length l.rest
