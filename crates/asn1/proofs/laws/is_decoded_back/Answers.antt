use Rattle.std.proofs.Common.{subst}
use Rattle.asn1.specs.Writing.{IsReadAs}
use Rattle.asn1.proofs.DecodedBack.{decoded_back}
use Rattle.asn1.proofs.laws.is_decoded_back.Goals as goal

pub returns-clause-decoded : goal.returns-clause-decoded
returns-clause-decoded g c = λ yes.
    let mode = c.args.mode in
    let x = c.args.x.now in
    let clear = (c.is_clear_in.ensures.exact c.requires.distinct).0 yes in
    decoded_back mode (g.T.Type.tags g.T.Type.TAG) (g.T.Type.means mode) g.T.Type.key x (g.T.Encode.writes g.T.Type.TAG x mode)
    (g.met.T.Encode.lawful g.T.Type.TAG x mode)
    (subst (λ t. IsReadAs (g.T.Type.tags t) (g.T.Type.means mode) g.T.Type.key x (g.T.Encode.writes t x mode)) c.tag.ensures
    (c.is_read_back.ensures x clear))
