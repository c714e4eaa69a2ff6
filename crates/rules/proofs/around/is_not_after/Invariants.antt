use Rattle.std.specs.Prelude.{◌↔◌, length}
use Rattle.encodings.specs.Sets.{IsNotAfter}
use Rattle.rules.proofs.around.is_not_after.Given as goal

abbrev pub invariant-loop-left : goal.invariant-loop-left
invariant-loop-left l = IsNotAfter l.fn.first l.fn.second ↔ IsNotAfter l.left l.right

abbrev pub decreases-loop-left : goal.decreases-loop-left
decreases-loop-left l = length l.left
