use Rattle.real.proofs.Fives.{double_is}
use Rattle.real.proofs.double.decimal_double.Goals as goal

pub returns : goal.returns
returns c = double_is c.double.result c.args.number.now c.in-Some.binary c.in-Some.ensures c.double.ensures
