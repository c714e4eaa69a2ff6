use Rattle.std.proofs.Common.{arith}
use Rattle.real.proofs.Texts.{number_large}
use Rattle.real.proofs.text.number.Goals as goal

pub returns-then-number-gt4294967295 : goal.returns-then-number-gt4294967295
returns-then-number-gt4294967295 c =
    rw (← c.loop-octet.invariant.same)
    (number_large c.loop-octet.number c.loop-octet.octet-index c.args.octets.now c.loop-octet-test.true
    (let t = c.if-number-gt4294967295.true in let s = c.saturating_sub.ensures in let f = c.from.ensures in omega arith))
