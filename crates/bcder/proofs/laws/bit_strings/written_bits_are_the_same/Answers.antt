use Rattle.bcder.proofs.WrittenBits.{written_same}
use Rattle.bcder.proofs.laws.bit_strings.written_bits_are_the_same.Goals as goal

pub returns : goal.returns
returns c = written_same
