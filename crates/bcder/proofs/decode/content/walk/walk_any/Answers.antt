use Rattle.bcder.specs.steps.StopCause.{stop_cause}
use Rattle.bcder.specs.calls.Views.{of_constructed}
use Rattle.bcder.specs.laws.Moved.{moved_twice_is_moved}
use Rattle.bcder.proofs.SameBorrow.{moves_constructed_name}
use Rattle.bcder.proofs.Passing.{looked_next}
use Rattle.bcder.proofs.decode.content.walk.walk_any.Goals as goal

pub returns-in-Ok-false-clause-moves : goal.returns-in-Ok-false-clause-moves
returns-in-Ok-false-clause-moves g c = moved_twice_is_moved _ _ _ c.pass_at_hand.ensures.moves c.step.ensures.moves

pub returns-in-Ok-false-clause-passed : goal.returns-in-Ok-false-clause-passed
returns-in-Ok-false-clause-passed g c =
    looked_next stop_cause (of_constructed g.S.Source.stream c.args.cons.now) (of_constructed g.S.Source.stream c.pass_at_hand.new.self)
    (of_constructed g.S.Source.stream c.step.new.cons)
    (c.in-Ok-false.ensures.passed.same c.in-Ok-false.field-0-test) c.in-Ok-false.ensures.passed.no_fault c.step.result c.step.ensures.passed

pub returns-in-Ok-true-clause-name : goal.returns-in-Ok-true-clause-name
returns-in-Ok-true-clause-name g c = moves_constructed_name g.S.Source.stream c.args.cons.now c.pass_at_hand.new.self c.pass_at_hand.ensures.moves

pub returns-in-Ok-false-clause-name : goal.returns-in-Ok-false-clause-name
returns-in-Ok-false-clause-name g c =
    moves_constructed_name g.S.Source.stream c.args.cons.now c.step.new.cons (moved_twice_is_moved _ _ _ c.pass_at_hand.ensures.moves c.step.ensures.moves)

pub returns-in-Err-clause-name : goal.returns-in-Err-clause-name
returns-in-Err-clause-name g c = moves_constructed_name g.S.Source.stream c.args.cons.now c.pass_at_hand.new.self c.pass_at_hand.ensures.moves
