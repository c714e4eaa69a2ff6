use Rattle.std.proofs.Common.{◌≡◌, ◌≤◌, length, take}
use Rattle.bcder.specs.x690.BitString.{bits}
use Rattle.asn1.specs.NamedBitLists.{trimmed, named_bits}
use Rattle.asn1.proofs.leaves.named_bits.named_len.Given as goal

-- the bits behind are zero
abbrev pub invariant-loop-len : goal.invariant-loop-len
invariant-loop-len l = record {
  within : l.len ≤ length (bits l.string);
  left : trimmed (take l.len (bits l.string)) ≡ named_bits l.string;
}

abbrev pub decreases-loop-len : goal.decreases-loop-len
decreases-loop-len l = l.len
