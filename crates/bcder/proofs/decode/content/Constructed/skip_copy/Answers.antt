use Rattle.std.proofs.Common.{refl, sym, ◌∙◌}
use Rattle.std.specs.Prelude.{Ok, Err, Some, None}
use Rattle.bcder.specs.calls.Cause.{cause_of}
use Rattle.bcder.specs.calls.Content.{source}
use Rattle.bcder.specs.calls.Views.{of_constructed}
use Rattle.bcder.specs.laws.Moved.{moved_twice_is_moved}
use Rattle.bcder.proofs.BorrowedContent.{moves_behind, skipped_behind}
use Rattle.bcder.proofs.SkipCalls.{one_at_once, refused_at_once, looked_skipped}
use Rattle.bcder.proofs.decode.content.Constructed.skip_copy.Goals as goal

pub returns-in-Ok-true-clause-moves : goal.returns-in-Ok-true-clause-moves
unfolding of_constructed
returns-in-Ok-true-clause-moves g c =
    let p = c.in-Ok-true.ensures.passed in
    let v = p.passed c.in-Ok-true.field-0-test in
    moves_behind c.args.self.now.source.ghost_name _ _ _ refl refl refl (v.stays ∙ sym v.has.usable) refl refl refl c.pass_shallow.ensures.moves p.mode p.marked

pub returns-in-Ok-true-clause-skipped : goal.returns-in-Ok-true-clause-skipped
unfolding of_constructed
returns-in-Ok-true-clause-skipped g c =
    let p = c.in-Ok-true.ensures.passed in
    let w = one_at_once cause_of _ _ (of_constructed g.S.Source.stream c.pass_shallow.new.self) _
    (p.passed c.in-Ok-true.field-0-test) p.no_fault p.mode p.marked in
    skipped_behind c.args.self.now.source.ghost_name _ _ _ refl refl refl
    (w.value.stays ∙ sym w.value.has.usable) refl refl refl c.pass_shallow.ensures.moves w.mode w.marked cause_of (Ok (Some _)) w

pub returns-in-Ok-Some-clause-moves : goal.returns-in-Ok-Some-clause-moves
unfolding of_constructed
returns-in-Ok-Some-clause-moves g c =
    let w = looked_skipped cause_of _ _ _ (Ok (Some _)) (c.in-Ok-false.ensures.passed.same c.in-Ok-false.field-0-test) c.in-Ok-false.ensures.passed.no_fault
    (rw c.in-Ok-Some.field-0-is at c.in-Ok-Some.ensures.skipped) in
    moves_behind c.args.self.now.source.ghost_name _ _ _ refl refl refl (w.value.stays ∙ sym w.value.has.usable) refl refl refl
    (moved_twice_is_moved _ _ _ c.pass_shallow.ensures.moves c.skip_stacked.ensures.moves) w.mode w.marked

pub returns-in-Ok-Some-clause-skipped : goal.returns-in-Ok-Some-clause-skipped
unfolding of_constructed
returns-in-Ok-Some-clause-skipped g c =
    let w = looked_skipped cause_of _ _ _ (Ok (Some _)) (c.in-Ok-false.ensures.passed.same c.in-Ok-false.field-0-test) c.in-Ok-false.ensures.passed.no_fault
    (rw c.in-Ok-Some.field-0-is at c.in-Ok-Some.ensures.skipped) in
    skipped_behind c.args.self.now.source.ghost_name _ _ _ refl refl refl (w.value.stays ∙ sym w.value.has.usable) refl refl refl
    (moved_twice_is_moved _ _ _ c.pass_shallow.ensures.moves c.skip_stacked.ensures.moves) w.mode w.marked cause_of (Ok (Some _)) w

pub returns-in-Ok-None-clause-moves : goal.returns-in-Ok-None-clause-moves
unfolding of_constructed
returns-in-Ok-None-clause-moves g c =
    let w = looked_skipped cause_of _ _ _ (Ok None) (c.in-Ok-false.ensures.passed.same c.in-Ok-false.field-0-test) c.in-Ok-false.ensures.passed.no_fault
    (rw c.in-Ok-None.field-0-is at c.in-Ok-None.ensures.skipped) in
    moves_behind c.args.self.now.source.ghost_name _ _ _ refl refl refl refl refl refl refl
    (moved_twice_is_moved _ _ _ c.pass_shallow.ensures.moves c.skip_stacked.ensures.moves) w.mode w.marked

pub returns-in-Ok-None-clause-skipped : goal.returns-in-Ok-None-clause-skipped
unfolding of_constructed
returns-in-Ok-None-clause-skipped g c =
    let w = looked_skipped cause_of _ _ _ (Ok None) (c.in-Ok-false.ensures.passed.same c.in-Ok-false.field-0-test) c.in-Ok-false.ensures.passed.no_fault
    (rw c.in-Ok-None.field-0-is at c.in-Ok-None.ensures.skipped) in
    skipped_behind c.args.self.now.source.ghost_name _ _ _ refl refl refl refl refl refl refl
    (moved_twice_is_moved _ _ _ c.pass_shallow.ensures.moves c.skip_stacked.ensures.moves) w.mode w.marked cause_of (Ok None) w

pub returns-in-Err-skip_stacked-clause-moves : goal.returns-in-Err-skip_stacked-clause-moves
unfolding of_constructed
returns-in-Err-skip_stacked-clause-moves g c =
    let w = looked_skipped cause_of _ _ _ (Err _)
    (c.in-Ok-false.ensures.passed.same c.in-Ok-false.field-0-test) c.in-Ok-false.ensures.passed.no_fault c.in-Err-skip_stacked.ensures.skipped in
    moves_behind c.args.self.now.source.ghost_name _ _ _ refl refl refl w.refused.0 refl refl refl
    (moved_twice_is_moved _ _ _ c.pass_shallow.ensures.moves c.skip_stacked.ensures.moves) w.mode w.marked

pub returns-in-Err-skip_stacked-clause-skipped : goal.returns-in-Err-skip_stacked-clause-skipped
unfolding of_constructed
returns-in-Err-skip_stacked-clause-skipped g c =
    let w = looked_skipped cause_of _ _ _ (Err _)
    (c.in-Ok-false.ensures.passed.same c.in-Ok-false.field-0-test) c.in-Ok-false.ensures.passed.no_fault c.in-Err-skip_stacked.ensures.skipped in
    skipped_behind c.args.self.now.source.ghost_name _ _ _ refl refl refl w.refused.0 refl refl refl
    (moved_twice_is_moved _ _ _ c.pass_shallow.ensures.moves c.skip_stacked.ensures.moves) w.mode w.marked cause_of (Err c.in-Err-skip_stacked.error) w

pub returns-in-Err-clause-moves : goal.returns-in-Err-clause-moves
unfolding of_constructed
returns-in-Err-clause-moves g c =
    let p = c.in-Err.ensures.passed in
    moves_behind c.args.self.now.source.ghost_name _ _ _ refl refl refl p.failed refl refl refl c.pass_shallow.ensures.moves p.mode p.marked

pub returns-in-Err-clause-skipped : goal.returns-in-Err-clause-skipped
unfolding of_constructed
returns-in-Err-clause-skipped g c =
    let p = c.in-Err.ensures.passed in
    let w = refused_at_once cause_of _ _ (of_constructed g.S.Source.stream c.pass_shallow.new.self) c.stop_error.result
    (source (c.stop_error.ensures ∙ p.fault.0) p.fault.1) p.failed p.mode p.marked in
    skipped_behind c.args.self.now.source.ghost_name _ _ _ refl refl refl w.refused.0 refl refl refl c.pass_shallow.ensures.moves w.mode w.marked cause_of
    (Err c.stop_error.result) w
