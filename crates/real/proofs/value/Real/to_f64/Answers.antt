use Rattle.std.proofs.lemmas.Float.{not_nan_f64_bits}
use Rattle.real.proofs.Doubles.{no_nan}
use Rattle.real.proofs.value.Real.to_f64.Goals as goal

pub float_from_bits-result : goal.float_from_bits-result
float_from_bits-result c =
    not_nan_f64_bits c.in-Some.bits (no_nan c.args.self.now c.in-Some.bits c.in_default.not-NotANumber c.in-Some.ensures)
