-- The digits so far come to `high`, which is small enough to go on.
use Rattle.std.proofs.Common.{◌≡◌, ◌^◌, ◌<◌, drop}
use Rattle.bcder.specs.x690.ObjectIdentifier.{subidentifier_number, number_after}
use Rattle.bcder.proofs.oid.components.number_to_large.Given as goal

abbrev pub invariant-loop-octet : goal.invariant-loop-octet
invariant-loop-octet l = (l.high < 2 ^ 33) × (number_after l.high (drop l.octet-index l.octets) ≡ subidentifier_number l.octets)
