use Rattle.asn1.proofs.TakenBack.{taken_back}
use Rattle.asn1.proofs.laws.what_is_written_is_taken_back.Goals as goal

pub returns : goal.returns
returns g c = λ e m i after w s l r d n.
    let x = c.args.x.now in
    let mode = c.args.mode in
    taken_back (g.T.Type.tags c.args.tag) (g.T.Type.means mode) g.T.Type.key (g.T.Type.key x) mode e ((g.met.T.Encode.lawful c.args.tag x mode).encodes e m)
    (c.is_read_back.ensures x c.requires e m) i (record { fits = w.fits; octets = w.octets }) after s l r d n
