use Rattle.std.proofs.Common.{length}
use Rattle.bcder.specs.laws.Moved.{Carries}
use Rattle.bcder.specs.calls.Views.{of_constructed}
use Rattle.user.proofs.count_all.Given as goal

abbrev pub invariant-loop-all : goal.invariant-loop-all
invariant-loop-all g l = Carries (of_constructed g.S.Source.stream l.fn.cons) (of_constructed g.S.Source.stream l.cons)

abbrev pub decreases-loop-all : goal.decreases-loop-all
decreases-loop-all g l = length (of_constructed g.S.Source.stream l.cons).stream.rest
