use Rattle.std.proofs.Common.{rules}
use Rattle.bcder.specs.calls.Capturing.{of_captured}
use Rattle.bcder.specs.calls.Capturing.{CapturesValues, HasOthers, HasValuesOrDeep}
use Rattle.bcder.specs.steps.CaptureSteps.{MetDeep, PassesToEnd}
use Rattle.bcder.specs.calls.Views.{of_constructed}
use Rattle.bcder.specs.laws.Moved.{untouched_is_moved}
use Rattle.bcder.proofs.SameBorrow.{constructed_form}
use Rattle.bcder.proofs.CapturingValues.{others_of, end_usable, all_deep, all_kept, holds_values, captures_by}
use Rattle.bcder.proofs.decode.content.Constructed.capture_all.Goals as goal

pub returns-clause-captured : goal.returns-clause-captured
unfolding of_constructed
returns-clause-captured g c =
    let old = of_constructed g.S.Source.stream c.args.self.now in
    captures_by (of_captured g.S.Source.stream) _ PassesToEnd HasOthers MetDeep HasValuesOrDeep
    (λ p r q x. search rules) others_of end_usable all_deep all_kept CapturesValues _ _
    (λ k h q m. holds_values _ _ _ _ k h (constructed_form g.S.Source.stream c.args.self.now) (c.capture.ensures.moves old (untouched_is_moved old)) q m)
    c.capture.result c.capture.ensures.captured c.capture.ensures.refused c.capture.ensures.mode
