use Rattle.bcder.specs.declared.encode.error.EncodeError.TheVariants.{LongCerBitString}
use Rattle.asn1.proofs.NamedBack.{named_back}
use Rattle.asn1.proofs.written.named_bits.NamedBitsEncode.is_read_back.Goals as goal

pub returns : goal.returns
returns c = λ x k. named_back LongCerBitString c.args._mode x k c.args._tag
