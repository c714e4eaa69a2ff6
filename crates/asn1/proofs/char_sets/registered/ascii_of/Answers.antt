use Rattle.asn1.proofs.Spelled.{ascii_text}
use Rattle.asn1.proofs.char_sets.registered.ascii_of.Goals as goal

pub from_utf8_unchecked-requires : goal.from_utf8_unchecked-requires
from_utf8_unchecked-requires c = ascii_text c.args.octets.now c.is_ascii.result c.if-is_ascii.true c.is_ascii.ensures.cases
