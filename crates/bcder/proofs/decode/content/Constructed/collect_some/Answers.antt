use Rattle.std.proofs.Common.{refl, rules}
use Rattle.bcder.specs.calls.Cause.{cause_of}
use Rattle.bcder.specs.calls.Views.{of_constructed}
use Rattle.bcder.specs.laws.Moved.{moved_carries}
use Rattle.bcder.proofs.Repeating.{gathered_none, gathered_more, once, one_moves, then_moves, took_nothing, took_some}
use Rattle.bcder.proofs.Repeating.{collects_all, collects_refused, collects_stalled, collects_unkept}
use Rattle.bcder.proofs.decode.content.Constructed.collect_some.Goals as goal

pub loop-value-init : goal.loop-value-init
loop-value-init g c = gathered_none _ _ _ _ _ c.new-all.ensures.items

pub returns-in-Ok-None-clause-moves : goal.returns-in-Ok-None-clause-moves
returns-in-Ok-None-clause-moves g c =
    moved_carries _ _ (then_moves _ _ _ _ _ _ _ _ c.requires.lawful c.loop-value.invariant.went.moves (once _ _ _ _ _ _ _ c.op.ensures))

pub returns-in-Ok-None-clause-collected : goal.returns-in-Ok-None-clause-collected
returns-in-Ok-None-clause-collected g c =
    collects_all cause_of _ _ _ _ _ _ _ _ _ c.loop-value.invariant _ refl (once _ _ _ _ _ _ _ (rw c.in-Ok-None.field-0-is at c.in-Ok-None.ensures))

pub returns-in-Err-clause-moves : goal.returns-in-Err-clause-moves
returns-in-Err-clause-moves g c =
    moved_carries _ _ (then_moves _ _ _ _ _ _ _ _ c.requires.lawful c.loop-value.invariant.went.moves (once _ _ _ _ _ _ _ c.op.ensures))

pub returns-in-Err-clause-collected : goal.returns-in-Err-clause-collected
returns-in-Err-clause-collected g c = collects_refused cause_of _ _ _ _ _ _ _ _ _ c.loop-value.invariant _ (once _ _ _ _ _ _ _ c.in-Err.ensures)

pub returns-then-owes_as_before-clause-moves : goal.returns-then-owes_as_before-clause-moves
returns-then-owes_as_before-clause-moves g c =
    moved_carries _ _ (then_moves _ _ _ _ _ _ _ _ c.requires.lawful c.loop-value.invariant.went.moves (once _ _ _ _ _ _ _ c.op.ensures))

pub returns-then-owes_as_before-clause-collected : goal.returns-then-owes_as_before-clause-collected
returns-then-owes_as_before-clause-collected g c =
    collects_stalled cause_of _ _ _ _ _ _ _ _ _ c.loop-value.invariant _ _ (once _ _ _ _ _ _ _ (rw c.in-Ok-Some.field-0-is at c.in-Ok-Some.ensures))
    (took_nothing _ _ (of_constructed g.S.Source.stream c.loop-value.self) (of_constructed g.S.Source.stream c.op.new.arg2) _ c.owed-owed.ensures c.owed.ensures
    c.owes_as_before.ensures c.if-owes_as_before.true) c.refusal.ensures

pub returns-then-is_err-clause-moves : goal.returns-then-is_err-clause-moves
returns-then-is_err-clause-moves g c =
    moved_carries _ _ (then_moves _ _ _ _ _ _ _ _ c.requires.lawful c.loop-value.invariant.went.moves (once _ _ _ _ _ _ _ c.op.ensures))

pub returns-then-is_err-clause-collected : goal.returns-then-is_err-clause-collected
returns-then-is_err-clause-collected g c =
    collects_unkept cause_of _ _ _ _ _ _ _ _ _ c.loop-value.invariant _ _ (once _ _ _ _ _ _ _ (rw c.in-Ok-Some.field-0-is at c.in-Ok-Some.ensures))
    (took_some _ _ (of_constructed g.S.Source.stream c.loop-value.self) (of_constructed g.S.Source.stream c.op.new.arg2) _ c.owed-owed.ensures c.owed.ensures
    c.owes_as_before.ensures c.if-owes_as_before.false) c.no_memory.ensures

pub loop-value-preserved : goal.loop-value-preserved
loop-value-preserved g c =
    gathered_more _ _ _ _ _ _ _ _ _ _ _ c.loop-value.invariant (once _ _ _ _ _ _ _ (rw c.in-Ok-Some.field-0-is at c.in-Ok-Some.ensures))
    (took_some _ _ (of_constructed g.S.Source.stream c.loop-value.self)
    (of_constructed g.S.Source.stream c.op.new.arg2) _ c.owed-owed.ensures c.owed.ensures c.owes_as_before.ensures c.if-owes_as_before.false)
    (one_moves _ _ _ _ _ _ _ _ c.requires.lawful c.loop-value.invariant.went.moves (once _ _ _ _ _ _ _ c.op.ensures)) (search rules)
