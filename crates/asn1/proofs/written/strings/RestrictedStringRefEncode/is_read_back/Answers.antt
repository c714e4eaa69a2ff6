use Rattle.asn1.proofs.WrittenStrings.{characters_read_back}
use Rattle.asn1.proofs.written.strings.RestrictedStringRefEncode.is_read_back.Goals as goal

pub returns : goal.returns
returns g c = λ x k. characters_read_back g.L.AsSlice.items c.args._tag c.args._mode x k.0 g.C.CharSet.step k.1
