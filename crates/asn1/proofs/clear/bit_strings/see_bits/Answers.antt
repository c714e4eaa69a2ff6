use Rattle.asn1.proofs.BitsBack.{told_bits}
use Rattle.asn1.proofs.clear.bit_strings.see_bits.Goals as goal

pub returns : goal.returns
returns c = told_bits c.args.bits.now c.a_bit_string_is_read_back.ensures.contents c.a_bit_string_is_read_back.ensures.read
