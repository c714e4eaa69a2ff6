use Rattle.std.proofs.Common.{◌∙◌, ap, subst}
use Rattle.bcder.specs.calls.Captured.{kept_stream}
use Rattle.bcder.specs.calls.Stream.{Stream}
use Rattle.asn1.specs.Decoded.{AreFields, RefusesFieldsOf}
use Rattle.asn1.specs.Sets.{RefusesMembers}
use Rattle.asn1.proofs.SetTaken.{joined_octets, members_converted}
use Rattle.asn1.proofs.set.read_members.Goals as goal

pub returns-in-Ok-decode_fields-clause-value : goal.returns-in-Ok-decode_fields-clause-value
returns-in-Ok-decode_fields-clause-value g c =
    let mode = c.args.mode in
    let Takes = g.F.Fields.takes mode in
    let x = c.in-Ok-decode_fields.fields in
    let q = ap (λ (z : Stream). z.rest) c.into_source.ensures ∙ joined_octets mode c.args.values.now.items c.in-Ok.joined c.in-Ok.ensures in
    subst (λ z. AreFields mode Takes z x) q c.in-Ok-decode_fields.ensures.value

pub returns-in-Err-clause-refused : goal.returns-in-Err-clause-refused
returns-in-Err-clause-refused g c =
    let mode = c.args.mode in
    let Takes = g.F.Fields.takes mode in
    let e = c.in-Err.error in
    let f = c.convert.result in
    let k = c.in-Ok.joined in
    let r = subst (λ z. RefusesFieldsOf mode Takes g.F.DecodeFields.may_lack z e) c.into_source.ensures c.in-Err.ensures.refused in
    subst (λ z. RefusesMembers mode Takes z f) (joined_octets mode c.args.values.now.items k c.in-Ok.ensures)
    (members_converted mode Takes (kept_stream k) e f c.convert.ensures.cause r)
