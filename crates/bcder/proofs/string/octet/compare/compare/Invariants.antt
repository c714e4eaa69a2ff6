use Rattle.std.proofs.Common.{◌≡◌, ◌++◌, [], length}
use Rattle.std.specs.Cmp.Lexicographic.{slice_cmp}
use Rattle.std.specs.List.{concat}
use Rattle.std.specs.Ordering.{nat_cmp}
use Rattle.bcder.proofs.string.octet.compare.compare.Given as goal

-- what is left of both is in the order of all, and a front is empty only at the end
abbrev pub invariant-loop-ones : goal.invariant-loop-ones
invariant-loop-ones l = record {
  left : slice_cmp nat_cmp (l.one ++ concat l.ones) (l.other ++ concat l.others) ≡ slice_cmp nat_cmp (concat l.fn.ones) (concat l.fn.others);
  one_ends : l.one ≡ [] → concat l.ones ≡ [];
  other_ends : l.other ≡ [] → concat l.others ≡ [];
}

abbrev pub decreases-loop-ones : goal.decreases-loop-ones
decreases-loop-ones l = length (l.one ++ concat l.ones)
