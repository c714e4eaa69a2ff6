-- The octets up to here have bit 8 set.
use Rattle.std.proofs.Common.{◌≡◌, take, drop}
use Rattle.bcder.specs.x690.ObjectIdentifier.{subidentifiers, cut_after}
use Rattle.bcder.proofs.oid.components.split_subidentifier.Given as goal

abbrev pub invariant-loop-i : goal.invariant-loop-i
invariant-loop-i l = subidentifiers l.octets ≡ cut_after (take l.i l.octets) (drop l.i l.octets)
