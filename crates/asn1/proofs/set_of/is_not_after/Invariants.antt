use Rattle.std.proofs.Common.{length, ◌-◌, ◌↔◌, drop}
use Rattle.asn1.specs.SetsOf.{IsNotAfter}
use Rattle.asn1.proofs.set_of.is_not_after.Given as goal

abbrev pub invariant-loop-index : goal.invariant-loop-index
invariant-loop-index l = IsNotAfter l.octets l.others ↔ IsNotAfter (drop l.index l.octets) (drop l.index l.others)

abbrev pub decreases-loop-index : goal.decreases-loop-index
decreases-loop-index l = length l.octets - l.index
