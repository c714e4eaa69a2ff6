use Rattle.real.proofs.Fives.{means_is}
use Rattle.real.proofs.value.Real.to_f64_bits.Goals as goal

pub returns-in-Decimal : goal.returns-in-Decimal
returns-in-Decimal c = means_is c.decimal_double.result c.args.self.now c.in-Decimal.number c.in-Decimal.is c.decimal_double.ensures
