use Rattle.std.proofs.Common.{subst}
use Rattle.asn1.specs.Writing.{IsReadAs}
use Rattle.asn1.proofs.ReadingBack.{optional_read_back}
use Rattle.asn1.proofs.written.OptionEncodeFields.are_read_back.Goals as goal

pub returns : goal.returns
returns g c = λ x k.
    let Means = g.T.Type.means c.args.mode in
    let Clear = λ (v : g.row.T.Denot). g.T.Encode.is_clear v c.args.mode in
    let one =
    subst (λ t. (x : g.row.T.Denot) → Clear x → IsReadAs (g.T.Type.tags t) Means g.T.Type.key x (g.T.Encode.writes t x c.args.mode)) c.tag.ensures
    c.is_read_back.ensures in
    optional_read_back (g.T.Type.tags g.T.Type.TAG) Means g.T.Type.key Clear (λ v. g.T.Encode.writes g.T.Type.TAG v c.args.mode) one x k
