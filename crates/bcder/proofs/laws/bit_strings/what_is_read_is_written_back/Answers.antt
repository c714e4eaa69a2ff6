use Rattle.bcder.proofs.WrittenBits.{written_back}
use Rattle.bcder.proofs.laws.bit_strings.what_is_read_is_written_back.Goals as goal

pub returns : goal.returns
returns c = written_back
