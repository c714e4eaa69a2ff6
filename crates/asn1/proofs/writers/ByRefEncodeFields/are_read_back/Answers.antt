use Rattle.std.proofs.Common.{refl}
use Rattle.std.specs.Prelude.{Ok}
use Rattle.bcder.specs.calls.Meaning.{Encoded}
use Rattle.asn1.proofs.ReadingBack.{fields_back_seen}
use Rattle.asn1.proofs.writers.ByRefEncodeFields.are_read_back.Goals as goal

pub returns : goal.returns
returns g c = λ x k.
    let mode = c.args.mode in
    let y = x.0.now in
    let F = g.F.EncodeFields.may_precede y mode in
    let W = λ (e : Encoded). g.F.EncodeFields.lays y mode (Ok e) in
    fields_back_seen (λ z. z.0.now) (λ s. (record { 0 = record x.0 { now = s } }, refl)) g.F.Fields.keys x (g.F.Fields.takes mode) F W
    (c.are_read_back.ensures y k)
