use Rattle.asn1.proofs.Lawful.{written_lawful}
use Rattle.asn1.proofs.parts_written.write_parts.Goals as goal

pub returns : goal.returns
returns g c =
    let tag = c.args.tag in
    let mode = c.args.mode in
    let x = c.args.parts.now in
    written_lawful mode (g.E.Encode.writes tag x mode) (g.met.E.Encode.lawful tag x mode) (g.E.Encode.may_lack x mode)
    _ _ c.write_encoded_as.result c.write_encoded_as.ensures
