use Rattle.bcder.specs.laws.Moved.{Carries}
use Rattle.bcder.specs.calls.Views.{of_constructed}
use Rattle.vectors.proofs.captures.compare_outside.Given as goal

abbrev pub invariant-loop-step : goal.invariant-loop-step
invariant-loop-step g l = Carries (of_constructed g.S.Source.stream l.fn.cons) (of_constructed g.S.Source.stream l.cons)
