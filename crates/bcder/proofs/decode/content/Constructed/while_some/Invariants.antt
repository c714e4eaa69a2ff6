use Rattle.bcder.specs.calls.Views.{of_constructed}
use Rattle.bcder.proofs.Repeating.{WentOn}
use Rattle.bcder.proofs.decode.content.Constructed.while_some.Given as goal

abbrev pub invariant-loop-turn : goal.invariant-loop-turn
invariant-loop-turn g l = WentOn (of_constructed g.S.Source.stream) (λ f p a q h. goal.F-step g f p a q h) l.fn.op
    (of_constructed g.S.Source.stream l.fn.self) l.turn l.op (of_constructed g.S.Source.stream l.self)
