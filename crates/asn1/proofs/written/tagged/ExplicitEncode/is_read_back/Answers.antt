use Rattle.asn1.specs.Types.{IsMember}
use Rattle.asn1.proofs.ReadingBack.{inside_read_back}
use Rattle.asn1.proofs.written.tagged.ExplicitEncode.is_read_back.Goals as goal

pub returns : goal.returns
returns g c = λ x k.
    let mode = c.args.mode in
    let Takes = IsMember (g.T.Type.tags g.T.Type.TAG) (g.T.Type.means mode) in
    inside_read_back c.args._tag g.T.Type.key x Takes (λ us. Unit {0}) mode (g.T.Encode.writes g.T.Type.TAG x mode) tt (c.are_read_back.ensures x k)
