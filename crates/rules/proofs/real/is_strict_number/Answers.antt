use Rattle.std.proofs.Common.{arith, rules}
use Rattle.rules.proofs.Reals.{past_less}
use Rattle.rules.proofs.real.is_strict_number.Goals as goal

pub overflow_sub-octets : goal.overflow_sub-octets
overflow_sub-octets c =
    let e = c.past-behind.ensures in
    rw e (omega (arith, past_less c.args.octets.now (c.begins_above_zero.ensures.0 (search rules))))

pub overflow_sub-octets-2 : goal.overflow_sub-octets-2
overflow_sub-octets-2 c =
    let e = c.past-behind.ensures in
    rw e (omega (arith, past_less c.args.octets.now (c.begins_above_zero.ensures.0 (search rules))))
