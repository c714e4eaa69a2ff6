use Rattle.asn1.specs.Lawfully.{Lawfully}
use Rattle.asn1.proofs.ReadingBack.{read_back_seen}
use Rattle.asn1.proofs.parts_written.AnyEncode.is_read_back.Goals as goal

pub returns : goal.returns
returns g c = λ x k.
    let tag = c.args.tag in
    let mode = c.args.mode in
    let parts = g.D.Parts.parts in
    read_back_seen parts g.met.D.EncodeParts.made g.D.Parts.typed.key x (g.D.Tags.Type.tags tag) (g.D.Parts.typed.means mode)
    (Lawfully mode (g.D.EncodeParts.written.writes tag (parts x) mode)) (λ e m. c.are_read_back.ensures (parts x) k e m.is)
