use Rattle.std.proofs.Common.{subst}
use Rattle.asn1.specs.Writing.{IsReadAs}
use Rattle.asn1.proofs.ChoicesBack.{choice_read_back}
use Rattle.asn1.proofs.written.choice.Choice2Encode.is_read_back.Goals as goal

pub returns : goal.returns
returns g c = λ x k.
    let mode = c.args.mode in
    let Clear = λ (v : g.row.A.Denot). g.A.Encode.is_clear v mode in
    let Bright = λ (v : g.row.B.Denot). g.B.Encode.is_clear v mode in
    let one =
    subst (λ t. (x : g.row.A.Denot) → Clear x → IsReadAs (g.A.Type.tags t) (g.A.Type.means mode) g.A.Type.key x (g.A.Encode.writes t x mode)) c.tag.ensures
    c.is_read_back.ensures in
    let two =
    subst (λ t. (x : g.row.B.Denot) → Bright x → IsReadAs (g.B.Type.tags t) (g.B.Type.means mode) g.B.Type.key x (g.B.Encode.writes t x mode))
    c.tag-2.ensures c.is_read_back-2.ensures in
    choice_read_back (g.A.Type.tags g.A.Type.TAG) (g.B.Type.tags g.B.Type.TAG) (g.A.Type.means mode) (g.B.Type.means mode) g.A.Type.key g.B.Type.key Clear
    Bright (λ v. g.A.Encode.writes g.A.Type.TAG v mode) (λ v. g.B.Encode.writes g.B.Type.TAG v mode) one two x k
