use Rattle.std.proofs.Common.{◌≡◌, length}
use Rattle.bcder.specs.calls.Walking.{Walks}
use Rattle.bcder.specs.calls.Views.{of_constructed}
use Rattle.bcder.proofs.decode.content.capture_values.pass_all.Given as goal

abbrev pub invariant-loop : goal.invariant-loop
invariant-loop g l = record {
  walks : Walks (of_constructed g.S.Source.stream l.fn.cons) (of_constructed g.S.Source.stream l.cons);
  no_fault : (of_constructed g.S.Source.stream l.cons).stream.faults ≡ (of_constructed g.S.Source.stream l.fn.cons).stream.faults;
}

abbrev pub decreases-loop : goal.decreases-loop
decreases-loop g l = length (of_constructed g.S.Source.stream l.cons).stream.rest
