use Rattle.std.proofs.Common.{rules}
use Rattle.bcder.specs.calls.Capturing.{of_captured}
use Rattle.bcder.specs.calls.Capturing.{BeginsDeep}
use Rattle.bcder.specs.calls.Capturing.{HasValueOrDeep, CapturesValue}
use Rattle.bcder.specs.calls.Walking.{HasNoValue, PassesValue}
use Rattle.bcder.specs.calls.Views.{of_constructed}
use Rattle.bcder.proofs.CapturingValues.{no_value_of, value_usable, one_deep, one_kept, holds_value, captures_by}
use Rattle.bcder.proofs.decode.content.Constructed.capture_one.Goals as goal

pub returns-clause-captured : goal.returns-clause-captured
unfolding of_constructed
returns-clause-captured g c =
    captures_by (of_captured g.S.Source.stream) _ PassesValue HasNoValue BeginsDeep HasValueOrDeep
    (λ p r q x. search rules) no_value_of value_usable one_deep one_kept CapturesValue _ _
    (λ k h v m. holds_value _ _ _ _ k h v m) c.capture.result c.capture.ensures.captured c.capture.ensures.refused c.capture.ensures.mode
