use Rattle.asn1.proofs.WrittenStrings.{string_read_back}
use Rattle.asn1.proofs.written.strings.OctetStringEncode.is_read_back.Goals as goal

pub returns : goal.returns
returns c = λ x k e m. string_read_back c.args._tag c.args._mode x e (k c.args._tag e m)
