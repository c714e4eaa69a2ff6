use Rattle.std.proofs.Common.{◌∙◌}
use Rattle.std.specs.Prelude.{Ok, Err}
use Rattle.bcder.specs.calls.Cause.{cause_of}
use Rattle.bcder.specs.steps.StopCause.{stop_cause}
use Rattle.bcder.specs.calls.Views.{of_constructed}
use Rattle.bcder.specs.calls.Content.{source}
use Rattle.bcder.specs.laws.Moved.{moved_carries, moved_twice_is_moved}
use Rattle.bcder.proofs.Passing.{looked_next}
use Rattle.bcder.proofs.Stopping.{walk_stopped}
use Rattle.bcder.proofs.decode.content.walk.walk.Goals as goal

pub returns-in-Ok-true-clause-moves : goal.returns-in-Ok-true-clause-moves
returns-in-Ok-true-clause-moves g c = moved_carries _ _ c.pass_at_hand.ensures.moves

pub returns-in-Ok-clause-moves : goal.returns-in-Ok-clause-moves
returns-in-Ok-clause-moves g c = moved_carries _ _ (moved_twice_is_moved _ _ _ c.pass_at_hand.ensures.moves c.walk_copy.ensures.moves)

pub returns-in-Ok-clause-passed : goal.returns-in-Ok-clause-passed
returns-in-Ok-clause-passed g c =
    let p = looked_next stop_cause (of_constructed g.S.Source.stream c.args.cons.now) (of_constructed g.S.Source.stream c.pass_at_hand.new.self)
    (of_constructed g.S.Source.stream c.walk_copy.new.cons)
    (c.in-Ok-false.ensures.passed.same c.in-Ok-false.field-0-test) c.in-Ok-false.ensures.passed.no_fault (Ok c.in-Ok.passed) c.in-Ok.ensures.passed in
    record { value = p.value; no_fault = p.no_fault; refused = tt; mode = p.mode; marked = p.marked }

pub returns-in-Err-walk_copy-clause-moves : goal.returns-in-Err-walk_copy-clause-moves
returns-in-Err-walk_copy-clause-moves g c = moved_carries _ _ (moved_twice_is_moved _ _ _ c.pass_at_hand.ensures.moves c.walk_copy.ensures.moves)

pub returns-in-Err-walk_copy-clause-passed : goal.returns-in-Err-walk_copy-clause-passed
returns-in-Err-walk_copy-clause-passed g c =
    let p = looked_next stop_cause (of_constructed g.S.Source.stream c.args.cons.now) (of_constructed g.S.Source.stream c.pass_at_hand.new.self)
    (of_constructed g.S.Source.stream c.walk_copy.new.cons) (c.in-Ok-false.ensures.passed.same c.in-Ok-false.field-0-test)
    c.in-Ok-false.ensures.passed.no_fault (Err c.in-Err-walk_copy.stop) c.in-Err-walk_copy.ensures.passed in
    record {
      value = tt;
      no_fault = tt;
      refused = (p.refused.0, walk_stopped stop_cause cause_of _ _ c.stop_error.ensures _ _ p.refused.1);
      mode = p.mode;
      marked = p.marked;
    }

pub returns-in-Err-clause-moves : goal.returns-in-Err-clause-moves
returns-in-Err-clause-moves g c = moved_carries _ _ c.pass_at_hand.ensures.moves

pub returns-in-Err-clause-passed : goal.returns-in-Err-clause-passed
returns-in-Err-clause-passed g c =
    let p = c.in-Err.ensures.passed in
    record {
      value = tt;
      no_fault = tt;
      refused = (p.failed, source (c.stop_error-in-Err.ensures ∙ p.fault.0) p.fault.1);
      mode = p.mode;
      marked = p.marked;
    }
