use Rattle.std.proofs.Common.{rules}
use Rattle.bcder.specs.calls.Views.{of_constructed}
use Rattle.asn1.proofs.Decoding.{decoded_all, refused_all}
use Rattle.asn1.proofs.whole.decode_fields.Goals as goal

pub returns-clause-value : goal.returns-clause-value
returns-clause-value g c =
    decoded_all (of_constructed g.S.Source.stream) _ c.args.mode g.F.Fields.takes g.F.DecodeFields.may_lack (λ p r q y. search rules)
    (g.S.Source.stream c.args.source) c.decode_all.result c.decode_all.ensures.ok

pub returns-clause-refused : goal.returns-clause-refused
returns-clause-refused g c =
    refused_all (of_constructed g.S.Source.stream) _ c.args.mode g.F.Fields.takes g.F.DecodeFields.may_lack (λ p r q y. search rules)
    (g.S.Source.stream c.args.source) c.decode_all.result c.decode_all.ensures.refused
