use Rattle.std.proofs.Common.{subst}
use Rattle.asn1.specs.Writing.{IsReadAs}
use Rattle.asn1.proofs.ReadingBack.{member_read_back}
use Rattle.asn1.proofs.written.AnyEncodeFields.are_read_back.Goals as goal

pub returns : goal.returns
returns g c = λ x k.
    let Means = g.T.Type.means c.args.mode in
    member_read_back (g.T.Type.tags g.T.Type.TAG) Means g.T.Type.key x (λ us. Unit {0}) (g.T.Encode.writes g.T.Type.TAG x c.args.mode)
    (subst (λ t. IsReadAs (g.T.Type.tags t) Means g.T.Type.key x (g.T.Encode.writes t x c.args.mode)) c.tag.ensures (c.is_read_back.ensures x k))
