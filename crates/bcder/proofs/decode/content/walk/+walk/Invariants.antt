use Rattle.std.proofs.Common.{◌≡◌, ◌+◌, ◌*◌, length}
use Rattle.bcder.specs.calls.Walking.{Walks}
use Rattle.bcder.specs.calls.Views.{of_constructed, limited_stream}
use Rattle.bcder.proofs.decode.content.walk.+walk.Given as goal

abbrev pub decreases-step : goal.decreases-step
decreases-step g l = 4 * length (of_constructed g.S.Source.stream l.cons.now).stream.rest

abbrev pub decreases-pass_content : goal.decreases-pass_content
decreases-pass_content g l = 4 * length (of_constructed g.S.Source.stream l.cons.now).stream.rest + 3

abbrev pub decreases-walk_over : goal.decreases-walk_over
decreases-walk_over g l = 4 * length (limited_stream g.S.Source.stream l.source.now).rest + 2

abbrev pub invariant-walk_over-loop : goal.invariant-walk_over-loop
invariant-walk_over-loop g l = record {
  walks : Walks (of_constructed g.S.Source.stream l.initial.cons) (of_constructed g.S.Source.stream l.cons);
  no_fault : (of_constructed g.S.Source.stream l.cons).stream.faults ≡ (of_constructed g.S.Source.stream l.initial.cons).stream.faults;
  name : l.cons.source.ghost_name ≡ l.initial.cons.source.ghost_name;
}

abbrev pub decreases-walk_over-loop : goal.decreases-walk_over-loop
decreases-walk_over-loop g l = length (of_constructed g.S.Source.stream l.cons).stream.rest
