-- The octets before this one are 0.
use Rattle.std.proofs.Common.{◌≡◌, ◌<◌, ◌-◌, ◌∷◌, drop}
use Rattle.bcder.specs.x690.Length.{big_endian}
use Rattle.bcder.proofs.int.unsigned.leading_zeros.Given as goal

abbrev pub invariant-loop-octet : goal.invariant-loop-octet
invariant-loop-octet l = record {
  count : l.count ≡ l.octet-index;
  number : big_endian (drop l.octet-index l.octets) ≡ big_endian l.octets;
  last : 0 < l.octet-index → drop (l.octet-index - 1) l.octets ≡ 0 ∷ drop l.octet-index l.octets;
}
