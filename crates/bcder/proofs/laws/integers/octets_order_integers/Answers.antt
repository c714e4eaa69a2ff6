use Rattle.bcder.specs.laws.Order.{order_of_integers}
use Rattle.bcder.proofs.laws.integers.octets_order_integers.Goals as goal

pub returns : goal.returns
returns c = order_of_integers
