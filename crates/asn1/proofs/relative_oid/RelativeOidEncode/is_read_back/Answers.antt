use Rattle.std.proofs.Common.{◌≡◌, ◌∙◌, sym, subst}
use Rattle.bcder.specs.calls.Meaning.{ExactlyOctets}
use Rattle.asn1.specs.RelativeIdentifiers.{AreRelative, IsRelative}
use Rattle.asn1.proofs.ReadingBack.{leaf_back}
use Rattle.asn1.proofs.relative_oid.RelativeOidEncode.is_read_back.Goals as goal

pub returns : goal.returns
returns c = λ x k.
    leaf_back c.args._tag (λ y. y) x (ExactlyOctets x) AreRelative (λ w m.
    let q = m.0 in
    let same : w ≡ x = cc in
    ((sym same, subst IsRelative (sym same) k), λ y h. h.0 ∙ same))
