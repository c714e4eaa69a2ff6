use Rattle.bcder.specs.laws.Integers.{some_integer, one_integer}
use Rattle.bcder.proofs.laws.integers.an_integer_is_its_octets.Goals as goal

pub returns-clause-some : goal.returns-clause-some
returns-clause-some c = some_integer

pub returns-clause-one : goal.returns-clause-one
returns-clause-one c = one_integer
