use Rattle.bcder.proofs.Writing.{exactly}
use Rattle.bcder.proofs.encode.primitive.integers.put_any_unsigned.Goals as goal

pub returns : goal.returns
returns g c = λ one. exactly c.args.tag c.of.ensures.octets c.put_short.ensures
