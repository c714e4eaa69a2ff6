use Rattle.bcder.specs.laws.Integers.{are_integer_octets}
use Rattle.bcder.proofs.int.compare.IntegerHash.hash.Goals as goal

pub returns : goal.returns
returns g c = rw (← are_integer_octets c.args.self.now c.as_slice.result.now c.as_slice.ensures.octets c.as_slice.ensures.integer) c.hash.ensures
