-- Each subidentifier before those that are left is in the fewest octets.
use Rattle.std.specs.Prelude.{◌↔◌}
use Rattle.std.proofs.Common.{length}
use Rattle.bcder.specs.x690.ObjectIdentifier.{subidentifiers, IsMinimal}
use Rattle.bcder.proofs.oid.components.is_minimal.Given as goal

abbrev pub invariant-loop-subidentifier : goal.invariant-loop-subidentifier
invariant-loop-subidentifier l = IsMinimal l.rest ↔ IsMinimal l.octets

abbrev pub decreases-loop-subidentifier : goal.decreases-loop-subidentifier
decreases-loop-subidentifier l = length (subidentifiers l.rest)
