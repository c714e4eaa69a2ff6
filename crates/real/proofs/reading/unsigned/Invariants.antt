use Rattle.std.proofs.Common.{◌≡◌, drop}
use Rattle.real.specs.Octets.{unsigned_from, unsigned}
use Rattle.real.proofs.reading.unsigned.Given as goal

abbrev pub invariant-loop-octet : goal.invariant-loop-octet
invariant-loop-octet l = unsigned_from l.number (drop l.octet-index l.octets) ≡ unsigned l.octets
