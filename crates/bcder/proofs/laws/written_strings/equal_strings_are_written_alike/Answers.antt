use Rattle.bcder.proofs.WrittenStrings.{written_alike}
use Rattle.bcder.proofs.laws.written_strings.equal_strings_are_written_alike.Goals as goal

pub returns : goal.returns
returns c = written_alike
