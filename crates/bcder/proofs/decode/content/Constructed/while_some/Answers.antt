use Rattle.std.proofs.Common.{arith}
use Rattle.bcder.specs.calls.Cause.{cause_of}
use Rattle.bcder.specs.calls.Views.{of_constructed}
use Rattle.bcder.specs.laws.Moved.{moved_carries}
use Rattle.bcder.proofs.Repeating.{went_none, went_more, once, one_moves, then_moves, took_nothing, took_some}
use Rattle.bcder.proofs.Repeating.{repeats_ended, repeats_refused, repeats_stalled, repeats_endless}
use Rattle.bcder.proofs.decode.content.Constructed.while_some.Goals as goal

pub loop-turn-init : goal.loop-turn-init
loop-turn-init g c = went_none _ _ _ _

pub returns-in-Ok-None-clause-moves : goal.returns-in-Ok-None-clause-moves
returns-in-Ok-None-clause-moves g c =
    moved_carries _ _ (then_moves _ _ _ _ _ _ _ _ c.requires.lawful c.loop-turn.invariant.moves (once _ _ _ _ _ _ _ c.op.ensures))

pub returns-in-Ok-None-clause-repeated : goal.returns-in-Ok-None-clause-repeated
returns-in-Ok-None-clause-repeated g c =
    repeats_ended cause_of _ _ _ _ _ _ _ _ _ c.loop-turn.invariant (once _ _ _ _ _ _ _ (rw c.in-Ok-None.field-0-is at c.in-Ok-None.ensures))

pub returns-in-Err-clause-moves : goal.returns-in-Err-clause-moves
returns-in-Err-clause-moves g c = moved_carries _ _ (then_moves _ _ _ _ _ _ _ _ c.requires.lawful c.loop-turn.invariant.moves (once _ _ _ _ _ _ _ c.op.ensures))

pub returns-in-Err-clause-repeated : goal.returns-in-Err-clause-repeated
returns-in-Err-clause-repeated g c = repeats_refused cause_of _ _ _ _ _ _ _ _ _ _ c.loop-turn.invariant (once _ _ _ _ _ _ _ c.in-Err.ensures)

pub returns-then-owes_as_before-clause-moves : goal.returns-then-owes_as_before-clause-moves
returns-then-owes_as_before-clause-moves g c =
    moved_carries _ _ (then_moves _ _ _ _ _ _ _ _ c.requires.lawful c.loop-turn.invariant.moves (once _ _ _ _ _ _ _ c.op.ensures))

pub returns-then-owes_as_before-clause-repeated : goal.returns-then-owes_as_before-clause-repeated
returns-then-owes_as_before-clause-repeated g c =
    repeats_stalled cause_of _ _ _ _ _ _ _ _ _ _ c.loop-turn.invariant (once _ _ _ _ _ _ _ (rw c.in-Ok-Some.field-0-is at c.in-Ok-Some.ensures))
    (took_nothing _ _ (of_constructed g.S.Source.stream c.loop-turn.self) (of_constructed g.S.Source.stream c.op.new.arg2) _ c.owed-owed.ensures c.owed.ensures
    c.owes_as_before.ensures c.if-owes_as_before.true) c.refusal.ensures

pub loop-turn-preserved : goal.loop-turn-preserved
loop-turn-preserved g c =
    went_more _ _ _ _ _ _ _ tt _ _ c.loop-turn.invariant (once _ _ _ _ _ _ _ (rw c.in-Ok-Some.field-0-is at c.in-Ok-Some.ensures))
    (took_some _ _ (of_constructed g.S.Source.stream c.loop-turn.self)
    (of_constructed g.S.Source.stream c.op.new.arg2) _ c.owed-owed.ensures c.owed.ensures c.owes_as_before.ensures c.if-owes_as_before.false)
    (one_moves _ _ _ _ _ _ _ _ c.requires.lawful c.loop-turn.invariant.moves (once _ _ _ _ _ _ _ c.op.ensures))

pub returns-clause-moves : goal.returns-clause-moves
returns-clause-moves g c = moved_carries _ _ c.loop-turn.invariant.moves

pub returns-clause-repeated : goal.returns-clause-repeated
returns-clause-repeated g c = repeats_endless cause_of _ _ _ _ _ _ _ _ (omega arith) c.loop-turn.invariant c.refusal-2.ensures
