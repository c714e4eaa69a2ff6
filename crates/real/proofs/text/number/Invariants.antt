use Rattle.std.proofs.Common.{◌≡◌, ◌<◌, drop}
use Rattle.real.specs.Decimal.{number_from, number}
use Rattle.real.proofs.text.number.Given as goal

abbrev pub invariant-loop-octet : goal.invariant-loop-octet
invariant-loop-octet l = record {
  same : number_from l.number (drop l.octet-index l.octets) ≡ number l.octets;
  below : l.number < 4294967296;
}
