use Rattle.std.proofs.Common.{◌≡◌, ◌≤◌, ◌++◌, length, take, drop}
use Rattle.encodings.specs.Negated.{all_zero, negated}
use Rattle.encodings.proofs.magnitude.negate.Given as goal

abbrev pub invariant-loop-at : goal.invariant-loop-at
invariant-loop-at l = record {
  inside : l.at ≤ l.fn.len;
  size : length l.octets ≡ length l.fn.octets;
  zeros : l.zeros ≡ all_zero (drop l.at (take l.fn.len l.fn.octets));
  done : drop l.at l.octets ≡ negated (drop l.at (take l.fn.len l.fn.octets)) ++ drop l.fn.len l.fn.octets;
  left : take l.at l.octets ≡ take l.at l.fn.octets;
}

abbrev pub decreases-loop-at : goal.decreases-loop-at
decreases-loop-at l = l.at
