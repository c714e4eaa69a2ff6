use Rattle.bcder.specs.x690.Utf8.{utf8_step}
use Rattle.bcder.specs.laws.Utf8.{utf8_lawful, utf8_text}
use Rattle.bcder.proofs.Characters.{text_accepted, text_lent}
use Rattle.bcder.proofs.string.restricted.utf8.Utf8CharSetCharSet.as_text.Goals as goal

pub text_of-requires : goal.text_of-requires
text_of-requires c = text_accepted utf8_step utf8_lawful utf8_text c.args.octets.now.octets c.requires

pub returns : goal.returns
returns c = text_lent utf8_step utf8_lawful utf8_text c.args.octets.now.octets c.text_of.result c.requires c.text_of.ensures
