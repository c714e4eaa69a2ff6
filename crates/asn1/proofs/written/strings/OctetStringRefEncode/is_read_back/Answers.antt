use Rattle.asn1.proofs.WrittenStrings.{piece_read_back}
use Rattle.asn1.proofs.written.strings.OctetStringRefEncode.is_read_back.Goals as goal

pub returns : goal.returns
returns g c = λ x k. piece_read_back g.L.AsSlice.items c.args._tag c.args._mode x k
