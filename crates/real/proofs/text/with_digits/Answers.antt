use Rattle.std.proofs.Common.{◌*◌, ◌^◌}
use Rattle.real.proofs.Texts.{digits_large}
use Rattle.real.proofs.text.with_digits.Goals as goal

pub returns-in_default-clause-same : goal.returns-in_default-clause-same
returns-in_default-clause-same c =
    rw (← c.loop-octet.invariant.same)
    (digits_large (c.loop-octet.number * 10 ^ c.loop-octet.zeros) c.loop-octet.octet-index c.args.octets.now c.loop-octet-test.true
    c.loop-octet.invariant.digits c.in_default.ensures.same)
