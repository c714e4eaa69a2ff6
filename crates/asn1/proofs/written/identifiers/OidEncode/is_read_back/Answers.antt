use Rattle.std.proofs.Common.{◌≡◌, ◌∙◌, sym, subst}
use Rattle.bcder.specs.x690.ObjectIdentifier.{IsComplete}
use Rattle.bcder.specs.calls.Meaning.{ExactlyOctets}
use Rattle.asn1.proofs.ReadingBack.{leaf_back}
use Rattle.asn1.proofs.written.identifiers.OidEncode.is_read_back.Goals as goal

pub returns : goal.returns
returns g c = λ x k.
    let items = g.T.AsSlice.items in
    leaf_back c.args._tag (λ y. items y.0) x (ExactlyOctets (items x.0)) (λ w y. (items y.0 ≡ w) × IsComplete w) (λ w m.
    let q = m.0 in
    let same : w ≡ items x.0 = cc in
    ((sym same, subst IsComplete (sym same) k), λ y h. h.0 ∙ same))
