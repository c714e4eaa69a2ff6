-- What is put in front is gone from behind; where nothing stands in front, its block is that of the segments.
use Rattle.std.proofs.Common.{◌≡◌, ◌≤◌, ◌++◌, [], length, IsTrue, Some}
use Rattle.std.specs.List.{concat}
use Rattle.bcder.specs.calls.StringSource.{SharesBlock}
use Rattle.bcder.proofs.string.octet.source.refill.Given as goal

abbrev pub invariant-loop-behind : goal.invariant-loop-behind
invariant-loop-behind l = record {
  stands : SharesBlock l.front (Some l.behind);
  shared : l.front.octets ≡ [] → IsTrue l.front.is_shared;
  same : l.front.octets ++ concat l.behind.parts ≡ l.initial.front.octets ++ concat l.initial.behind.parts;
  no_fewer : length l.initial.front.octets ≤ length l.front.octets;
}

abbrev pub decreases-loop-behind : goal.decreases-loop-behind
decreases-loop-behind l = length l.behind.parts
