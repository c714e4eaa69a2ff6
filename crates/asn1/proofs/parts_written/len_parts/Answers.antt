use Rattle.asn1.proofs.Lawful.{size_lawful}
use Rattle.asn1.proofs.parts_written.len_parts.Goals as goal

pub returns : goal.returns
returns g c =
    let tag = c.args.tag in
    let mode = c.args.mode in
    let x = c.args.parts.now in
    size_lawful mode (g.E.Encode.writes tag x mode) (g.met.E.Encode.lawful tag x mode) (g.E.Encode.may_lack x mode)
    c.encoded_len_as.result c.encoded_len_as.ensures
