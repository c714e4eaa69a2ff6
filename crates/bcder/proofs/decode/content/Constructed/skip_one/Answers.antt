use Rattle.bcder.specs.calls.Cause.{cause_of}
use Rattle.bcder.specs.calls.Views.{of_constructed}
use Rattle.bcder.specs.laws.Moved.{moved_carries, moved_twice_is_moved}
use Rattle.bcder.proofs.SkipCalls.{looked_skipped}
use Rattle.bcder.proofs.decode.content.Constructed.skip_one.Goals as goal

pub returns-in-Ok-true-clause-moves : goal.returns-in-Ok-true-clause-moves
returns-in-Ok-true-clause-moves g c = moved_carries _ _ c.pass_at_hand.ensures.moves

pub returns-in-Ok-false-clause-moves : goal.returns-in-Ok-false-clause-moves
returns-in-Ok-false-clause-moves g c = moved_carries _ _ (moved_twice_is_moved _ _ _ c.pass_at_hand.ensures.moves c.skip_copy.ensures.moves)

pub returns-in-Ok-false-clause-skipped : goal.returns-in-Ok-false-clause-skipped
returns-in-Ok-false-clause-skipped g c = looked_skipped cause_of (of_constructed g.S.Source.stream c.args.self.now)
    (of_constructed g.S.Source.stream c.pass_at_hand.new.self) (of_constructed g.S.Source.stream c.skip_copy.new.self) _
    (c.in-Ok-false.ensures.passed.same c.in-Ok-false.field-0-test) c.in-Ok-false.ensures.passed.no_fault c.skip_copy.ensures.skipped

pub returns-in-Err-clause-moves : goal.returns-in-Err-clause-moves
returns-in-Err-clause-moves g c = moved_carries _ _ c.pass_at_hand.ensures.moves
