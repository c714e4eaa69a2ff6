use Rattle.bcder.specs.x690.AsciiSets.{one_octet_step}
use Rattle.bcder.specs.laws.CharSets.{ascii_lawful, ascii_texts}
use Rattle.bcder.proofs.Characters.{text_accepted, text_lent}
use Rattle.bcder.proofs.string.restricted.ascii.as_text_of.Goals as goal

pub text_of-requires : goal.text_of-requires
text_of-requires g c =
    let has = g.S.AsciiSet.test in
    let ascii = g.met.S.AsciiSet.ascii in
    text_accepted (one_octet_step has) (ascii_lawful has ascii) (ascii_texts has ascii) c.args.octets.now.octets c.requires

pub returns : goal.returns
returns g c =
    let has = g.S.AsciiSet.test in
    let ascii = g.met.S.AsciiSet.ascii in
    text_lent (one_octet_step has) (ascii_lawful has ascii) (ascii_texts has ascii) c.args.octets.now.octets c.text_of.result c.requires c.text_of.ensures
