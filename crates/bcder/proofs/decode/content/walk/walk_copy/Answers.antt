use Rattle.std.proofs.Common.{refl, sym, ◌∙◌}
use Rattle.std.specs.Prelude.{Ok, Err, Some, None}
use Rattle.bcder.specs.steps.StopCause.{stop_cause}
use Rattle.bcder.specs.calls.Views.{of_constructed}
use Rattle.bcder.proofs.BorrowedContent.{moves_behind, passed_behind}
use Rattle.bcder.proofs.decode.content.walk.walk_copy.Goals as goal

pub returns-in-Ok-Some-clause-moves : goal.returns-in-Ok-Some-clause-moves
unfolding of_constructed
returns-in-Ok-Some-clause-moves g c =
    let w = rw c.in-Ok-Some.field-0-is at c.in-Ok-Some.ensures.passed in
    moves_behind c.args.cons.now.source.ghost_name _ _ _ refl refl refl
    (w.value.stays ∙ sym w.value.has.usable) refl refl refl c.walk_any.ensures.moves w.mode w.marked

pub returns-in-Ok-Some-clause-passed : goal.returns-in-Ok-Some-clause-passed
unfolding of_constructed
returns-in-Ok-Some-clause-passed g c =
    let w = rw c.in-Ok-Some.field-0-is at c.in-Ok-Some.ensures.passed in
    passed_behind c.args.cons.now.source.ghost_name _ _ _ refl refl refl
    (w.value.stays ∙ sym w.value.has.usable) refl refl refl c.walk_any.ensures.moves w.mode w.marked stop_cause (Ok (Some _)) w

pub returns-in-Ok-None-clause-moves : goal.returns-in-Ok-None-clause-moves
unfolding of_constructed
returns-in-Ok-None-clause-moves g c =
    let w = rw c.in-Ok-None.field-0-is at c.in-Ok-None.ensures.passed in
    moves_behind c.args.cons.now.source.ghost_name _ _ _ refl refl refl refl refl refl refl c.walk_any.ensures.moves w.mode w.marked

pub returns-in-Ok-None-clause-passed : goal.returns-in-Ok-None-clause-passed
unfolding of_constructed
returns-in-Ok-None-clause-passed g c =
    let w = rw c.in-Ok-None.field-0-is at c.in-Ok-None.ensures.passed in
    passed_behind c.args.cons.now.source.ghost_name _ _ _ refl refl refl refl refl refl refl c.walk_any.ensures.moves w.mode w.marked stop_cause (Ok None) w

pub returns-in-Err-clause-moves : goal.returns-in-Err-clause-moves
unfolding of_constructed
returns-in-Err-clause-moves g c =
    let w = c.in-Err.ensures.passed in
    moves_behind c.args.cons.now.source.ghost_name _ _ _ refl refl refl w.refused.0 refl refl refl c.walk_any.ensures.moves w.mode w.marked

pub returns-in-Err-clause-passed : goal.returns-in-Err-clause-passed
unfolding of_constructed
returns-in-Err-clause-passed g c =
    let w = c.in-Err.ensures.passed in
    passed_behind c.args.cons.now.source.ghost_name _ _ _ refl refl refl w.refused.0 refl refl refl c.walk_any.ensures.moves w.mode w.marked
    stop_cause (Err c.in-Err.stop) w
