use Rattle.bcder.specs.declared.encode.error.EncodeError.TheVariants.{LongCerPrimitive}
use Rattle.asn1.proofs.BitsBack.{bits_read_back}
use Rattle.asn1.proofs.written.bit_strings.BitStringEncode.is_read_back.Goals as goal

pub returns : goal.returns
returns c = λ x k. bits_read_back LongCerPrimitive c.args._tag c.args._mode x k
