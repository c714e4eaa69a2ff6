use Rattle.std.proofs.Common.{ap, ◌∙◌}
use Rattle.bcder.specs.calls.Cause.{cause_of}
use Rattle.bcder.specs.calls.Views.{of_constructed}
use Rattle.bcder.proofs.Decoding.{decoded_once, not_decoded_once}
use Rattle.bcder.proofs.decode.content.Constructed.decode.Goals as goal

pub returns-clause-ok : goal.returns-clause-ok
returns-clause-ok g c =
    decoded_once cause_of (of_constructed g.S.Source.stream) _ _ _ _ _ _ c.new-limited.ensures.limit _
    (ap g.S.Source.stream c.new-limited.ensures.source ∙ c.into_source.ensures) _ c.run_over.ensures

pub returns-clause-refused : goal.returns-clause-refused
returns-clause-refused g c =
    not_decoded_once cause_of (of_constructed g.S.Source.stream) _ _ _ _ _ _ c.new-limited.ensures.limit _
    (ap g.S.Source.stream c.new-limited.ensures.source ∙ c.into_source.ensures) _ c.run_over.ensures
