use Rattle.std.proofs.Common.{◌-◌, ◌^◌, vec_len}
use Rattle.bcder.specs.calls.Views.{of_constructed}
use Rattle.bcder.proofs.Repeating.{Gathered}
use Rattle.bcder.proofs.decode.content.Constructed.collect_some.Given as goal

abbrev pub invariant-loop-value : goal.invariant-loop-value
invariant-loop-value g l = Gathered (of_constructed g.S.Source.stream) (λ f p a q h. goal.F-step g f p a q h) l.fn.op
    (of_constructed g.S.Source.stream l.fn.self) l.all.items l.op (of_constructed g.S.Source.stream l.self)

abbrev pub decreases-loop-value : goal.decreases-loop-value
decreases-loop-value g l = 2 ^ 64 - vec_len l.all
