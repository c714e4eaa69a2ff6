use Rattle.asn1.specs.Types.{Only}
use Rattle.asn1.proofs.ReadingBack.{retagged_back}
use Rattle.asn1.proofs.written.tagged.ImplicitEncode.is_read_back.Goals as goal

pub returns : goal.returns
returns g c = λ x k.
    let tag = c.args.tag in
    let mode = c.args.mode in
    let fixed = g.met.T.FixedTag.fixed tag in
    let W = g.T.Encode.writes tag x mode in
    retagged_back (g.T.Type.tags tag) (Only tag) (λ t. (fixed t).0) (g.T.Type.means mode) g.T.Type.key x W (c.is_read_back.ensures x k)
