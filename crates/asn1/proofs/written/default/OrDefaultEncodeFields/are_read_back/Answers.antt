use Rattle.std.proofs.Common.{subst}
use Rattle.asn1.specs.Writing.{IsReadAs}
use Rattle.asn1.proofs.DefaultedBack.{default_back}
use Rattle.asn1.proofs.written.default.OrDefaultEncodeFields.are_read_back.Goals as goal

pub returns : goal.returns
returns g c = λ x k.
    let mode = c.args.mode in
    let Means = g.T.Type.means mode in
    let read = subst (λ t. IsReadAs (g.T.Type.tags t) Means g.T.Type.key x (g.T.Encode.writes t x mode)) c.tag.ensures (c.is_read_back.ensures x k) in
    default_back mode (g.T.Type.tags g.T.Type.TAG) Means g.T.Type.key (g.T.Type.key g.D.DefaultValue.default) (g.T.Encode.writes g.T.Type.TAG x mode) x read
