use Rattle.bcder.proofs.StringsBack.{string_taken}
use Rattle.bcder.proofs.laws.written_strings.written_strings_are_taken_back.Goals as goal

pub returns : goal.returns
returns g c = string_taken
