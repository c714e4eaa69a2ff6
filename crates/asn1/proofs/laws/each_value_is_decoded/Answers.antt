use Rattle.std.proofs.Common.{subst}
use Rattle.asn1.specs.Writing.{IsReadAs}
use Rattle.asn1.proofs.DecodedBack.{decoded_back}
use Rattle.asn1.proofs.laws.each_value_is_decoded.Goals as goal

pub returns : goal.returns
returns g c =
    let mode = c.args.mode in
    let x = c.args.x.now in
    let clear = (c.is_clear_in-clear.ensures.exact c.requires.distinct).0 (c.is_clear_in-clear.ensures.always c.requires.distinct c.requires.always) in
    decoded_back mode (g.T.Type.tags g.T.Type.TAG) (g.T.Type.means mode) g.T.Type.key x (g.T.Encode.writes g.T.Type.TAG x mode)
    (g.met.T.Encode.lawful g.T.Type.TAG x mode)
    (subst (λ t. IsReadAs (g.T.Type.tags t) (g.T.Type.means mode) g.T.Type.key x (g.T.Encode.writes t x mode)) c.tag.ensures
    (c.is_read_back.ensures x clear))
