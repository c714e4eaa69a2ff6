use Rattle.std.specs.Prelude.{◌↔◌, [], length}
use Rattle.encodings.specs.Sets.{IsNotAfter}
use Rattle.rules.proofs.around.are_zero.Given as goal

abbrev pub invariant-loop-rest : goal.invariant-loop-rest
invariant-loop-rest l = IsNotAfter l.fn.octets [] ↔ IsNotAfter l.rest []

abbrev pub decreases-loop-rest : goal.decreases-loop-rest
decreases-loop-rest l = length l.rest
