use Rattle.bcder.specs.laws.Moved.{Carries}
use Rattle.bcder.specs.calls.Views.{of_constructed}
use Rattle.vectors.proofs.positions.take_some.Given as goal

abbrev pub invariant-values : goal.invariant-values
invariant-values g l = Carries (of_constructed g.S.Source.stream l.fn.cons) (of_constructed g.S.Source.stream l.cons)
