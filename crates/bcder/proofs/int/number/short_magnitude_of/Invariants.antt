-- The octets before this one are told.
use Rattle.std.proofs.Common.{◌≡◌, take}
use Rattle.bcder.specs.x690.Number.{magnitude}
use Rattle.bcder.proofs.int.number.short_magnitude_of.Given as goal

abbrev pub invariant-loop-octet : goal.invariant-loop-octet
invariant-loop-octet l = l.value ≡ magnitude l.negative (take l.octet-index l.octets)
