use Rattle.bcder.proofs.WrittenBits.{written_alike}
use Rattle.bcder.proofs.laws.bit_strings.same_bits_are_written_alike.Goals as goal

pub returns : goal.returns
returns c = written_alike
