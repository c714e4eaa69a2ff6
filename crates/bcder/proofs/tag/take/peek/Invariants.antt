use Rattle.std.proofs.Common.{◌≡◌, ◌-◌, ◌≤◌}
use Rattle.bcder.proofs.tag.take.peek.Given as goal

abbrev pub invariant-loop-found : goal.invariant-loop-found
invariant-loop-found g l = record {
  least : 1 ≤ l.wanted;
  most : l.wanted ≤ 4;
  faults : (g.S.Source.stream l.source).faults ≡ (g.S.Source.stream l.fn.source).faults;
  rest : (g.S.Source.stream l.source).rest ≡ (g.S.Source.stream l.fn.source).rest;
  position : (g.S.Source.stream l.source).position ≡ (g.S.Source.stream l.fn.source).position;
  kept : (g.S.Source.stream l.source).kept ≡ (g.S.Source.stream l.fn.source).kept;
}

abbrev pub decreases-loop-found : goal.decreases-loop-found
decreases-loop-found g l = 5 - l.wanted
