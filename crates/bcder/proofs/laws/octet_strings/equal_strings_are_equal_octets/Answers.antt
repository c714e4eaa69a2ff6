use Rattle.bcder.proofs.OneString.{one_string, one_string_encoding}
use Rattle.bcder.proofs.laws.octet_strings.equal_strings_are_equal_octets.Goals as goal

pub returns-clause-value : goal.returns-clause-value
returns-clause-value c = one_string

pub returns-clause-encoding : goal.returns-clause-encoding
returns-clause-encoding c = one_string_encoding
