use Rattle.bcder.specs.declared.encode.error.EncodeError.TheVariants.{LongCerPrimitive}
use Rattle.bcder.proofs.WrittenBits.{bit_string_read}
use Rattle.bcder.proofs.laws.read_back.a_bit_string_is_read_back.Goals as goal

pub returns : goal.returns
returns c = bit_string_read LongCerPrimitive c.args.mode c.args.x.now c.see.ensures.bits c.see.ensures.octets c.requires
