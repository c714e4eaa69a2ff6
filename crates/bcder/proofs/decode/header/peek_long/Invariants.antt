use Rattle.std.proofs.Common.{◌≡◌, ◌-◌, ◌≤◌}
use Rattle.bcder.proofs.decode.header.peek_long.Given as goal

abbrev pub invariant-loop-found : goal.invariant-loop-found
invariant-loop-found g l = record {
  least : 2 ≤ l.count;
  most : l.count ≤ 9;
  faults : (g.S.Source.stream l.source).faults ≡ (g.S.Source.stream l.fn.source).faults;
  rest : (g.S.Source.stream l.source).rest ≡ (g.S.Source.stream l.fn.source).rest;
  position : (g.S.Source.stream l.source).position ≡ (g.S.Source.stream l.fn.source).position;
  kept : (g.S.Source.stream l.source).kept ≡ (g.S.Source.stream l.fn.source).kept;
}

abbrev pub decreases-loop-found : goal.decreases-loop-found
decreases-loop-found g l = 10 - l.count
