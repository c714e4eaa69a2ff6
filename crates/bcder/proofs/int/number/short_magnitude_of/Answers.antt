use Rattle.std.proofs.Common.{◌<◌, arith}
use Rattle.bcder.specs.x690.Identifier.{AreOctets}
use Rattle.bcder.proofs.Numbers.{short_magnitude_fits}
use Rattle.bcder.proofs.int.number.short_magnitude_of.Goals as goal

pub overflow_mul-value : goal.overflow_mul-value
overflow_mul-value c =
    let o : AreOctets c.args.octets.now = λ i. omega (arith, c.type_inv.octets i) in
    omega (arith, short_magnitude_fits c.args.negative c.args.octets.now c.loop-octet.octet-index o (omega arith) (omega arith), c.loop-octet.invariant)

pub overflow_add-value : goal.overflow_add-value
overflow_add-value c =
    let o : AreOctets c.args.octets.now = λ i. omega (arith, c.type_inv.octets i) in
    let b : c.invert_if.result < 256 = omega arith in
    omega (arith, short_magnitude_fits c.args.negative c.args.octets.now c.loop-octet.octet-index o (omega arith) (omega arith), c.loop-octet.invariant)
