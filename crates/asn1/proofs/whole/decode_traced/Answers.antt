use Rattle.std.proofs.Common.{subst}
use Rattle.std.specs.Prelude.{IfOk, IfErr}
use Rattle.asn1.specs.Decoded.{AreFields, RefusesFieldsOf}
use Rattle.asn1.specs.Types.{IsMember}
use Rattle.asn1.proofs.Decoding.{one_decoded, one_refused}
use Rattle.asn1.proofs.whole.decode_traced.Goals as goal

pub returns-clause-value : goal.returns-clause-value
returns-clause-value g c =
    let mode = c.args.mode in
    let Tags = g.T.Type.tags g.T.Type.TAG in
    let Means = g.T.Type.means mode in
    let r = c.decode_fields-value.result in
    one_decoded mode Tags Means (g.I.IntoSource.gives c.args.source) r
    (subst (λ s. IfOk r (λ x. AreFields mode (IsMember Tags Means) s.rest x)) c.into_source.ensures c.decode_fields-value.ensures.value)

pub returns-clause-refused : goal.returns-clause-refused
returns-clause-refused g c =
    let mode = c.args.mode in
    let Tags = g.T.Type.tags g.T.Type.TAG in
    let Means = g.T.Type.means mode in
    let r = c.decode_fields-value.result in
    one_refused mode Tags Means (g.I.IntoSource.gives c.args.source) g.T.Decode.may_lack r
    (subst (λ s. IfErr r (λ e. RefusesFieldsOf mode (IsMember Tags Means) g.T.Decode.may_lack s e)) c.into_source.ensures c.decode_fields-value.ensures.refused)
