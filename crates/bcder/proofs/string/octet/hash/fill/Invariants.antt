use Rattle.std.proofs.Common.{◌≡◌, ◌+◌, ◌≤◌, ◌<◌, ◌++◌, [], length}
use Rattle.std.specs.List.{concat}
use Rattle.bcder.proofs.string.octet.hash.fill.Given as goal

-- what is put together and what is left are all, and a part is empty only at the end
abbrev pub invariant-loop-block : goal.invariant-loop-block
invariant-loop-block l = record {
  joined : l.block ++ (l.part ++ concat l.parts) ≡ l.fn.part ++ concat l.fn.parts;
  some : 0 < length l.block + length l.part;
  within : length l.block ≤ 64;
  all : l.part ≡ [] → concat l.parts ≡ [];
}

abbrev pub decreases-loop-block : goal.decreases-loop-block
decreases-loop-block l = length (l.part ++ concat l.parts)
