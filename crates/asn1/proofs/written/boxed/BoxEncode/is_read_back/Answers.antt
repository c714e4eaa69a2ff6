use Rattle.std.proofs.Common.{refl}
use Rattle.asn1.proofs.ReadingBack.{read_back_seen}
use Rattle.asn1.proofs.written.boxed.BoxEncode.is_read_back.Goals as goal

pub returns : goal.returns
returns g c = λ x k.
    let tag = c.args.tag in
    let mode = c.args.mode in
    read_back_seen (λ b. b.value) (λ v. (record x { value = v }, refl)) g.T.Type.key x (g.T.Type.tags tag) (g.T.Type.means mode)
    (g.T.Encode.writes tag x.value mode) (c.is_read_back.ensures x.value k)
