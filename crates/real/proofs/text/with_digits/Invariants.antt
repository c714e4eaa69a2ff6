use Rattle.std.proofs.Common.{◌≡◌, ◌+◌, ◌*◌, ◌^◌, ◌≤◌, drop}
use Rattle.real.specs.Decimal.{AreDigits, number_from}
use Rattle.real.specs.Scan.{IsStripped}
use Rattle.real.proofs.text.with_digits.Given as goal

abbrev pub invariant-loop-octet : goal.invariant-loop-octet
invariant-loop-octet l = record {
  same : number_from (l.number * 10 ^ l.zeros) (drop l.octet-index l.octets) ≡ number_from (l.fn.number * 10 ^ l.fn.zeros) l.octets;
  stripped : IsStripped (l.number * 10 ^ l.zeros) l.number l.zeros;
  digits : AreDigits (drop l.octet-index l.octets);
  few : l.zeros ≤ l.fn.zeros + l.octet-index;
}
