use Rattle.asn1.proofs.WrittenStrings.{restricted_read_back}
use Rattle.asn1.proofs.written.strings.RestrictedStringEncode.is_read_back.Goals as goal

pub returns : goal.returns
returns g c = λ x k e m. restricted_read_back g.L.CharSet.step c.args._tag c.args._mode x e k.1 (k.0 c.args._tag e m)
