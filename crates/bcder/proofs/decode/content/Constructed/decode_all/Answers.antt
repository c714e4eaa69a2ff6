use Rattle.std.proofs.Common.{ap, ◌∙◌}
use Rattle.bcder.specs.calls.Views.{of_constructed}
use Rattle.bcder.proofs.Decoding.{rest_refused, decoded_whole, not_decoded_whole, not_decoded_at_all}
use Rattle.bcder.proofs.decode.content.Constructed.decode_all.Goals as goal

pub returns-in-Ok-exhausted-clause-ok : goal.returns-in-Ok-exhausted-clause-ok
returns-in-Ok-exhausted-clause-ok g c =
    decoded_whole (of_constructed g.S.Source.stream) _ _ _ _ _ _ _ c.new-limited.ensures.limit
    (ap g.S.Source.stream c.new-limited.ensures.source ∙ c.into_source.ensures) _ c.in-Ok.ensures c.in-Ok-exhausted.ensures.ok

pub returns-in-Ok-clause-refused : goal.returns-in-Ok-clause-refused
returns-in-Ok-clause-refused g c =
    not_decoded_whole (of_constructed g.S.Source.stream) _ _ _ _ _ _ _ c.new-limited.ensures.limit
    (ap g.S.Source.stream c.new-limited.ensures.source ∙ c.into_source.ensures) _ c.in-Ok.ensures _ _
    (rest_refused _ _ (g.S.Source.stream c.exhausted.new.self.source) _ c.in-Err-exhausted.ensures.cause c.in-Err-exhausted.ensures.at)

pub returns-clause-refused : goal.returns-clause-refused
returns-clause-refused g c =
    not_decoded_at_all (of_constructed g.S.Source.stream) _ _ _ _ _ _ _ c.new-limited.ensures.limit
    (ap g.S.Source.stream c.new-limited.ensures.source ∙ c.into_source.ensures) _ c.in-Err.ensures
