use Rattle.bcder.specs.laws.Integers.{are_integer_octets}
use Rattle.bcder.proofs.int.IntegerAsSliceU8.as_slice.Goals as goal

pub returns : goal.returns
returns c = are_integer_octets c.args.self.now c.as_slice.result.now c.as_slice.ensures.octets c.as_slice.ensures.integer
