use Rattle.asn1.proofs.SetsSorted.{set_size}
use Rattle.asn1.proofs.written.sets.ItemsValues.encoded_len.Goals as goal

pub returns : goal.returns
returns g c =
    let mode = c.args.mode in
    set_size mode (λ (v : g.row.T.Denot). g.T.Encode.writes g.T.Type.TAG v mode) (λ v. g.met.T.Encode.lawful g.T.Type.TAG v mode)
    (λ v. g.T.Encode.may_lack v mode)
    c.args.self.now.0.now.items c.len_fields.result c.len_fields.ensures
