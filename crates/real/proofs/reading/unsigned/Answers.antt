use Rattle.real.proofs.Numbers.{too_large}
use Rattle.real.proofs.reading.unsigned.Goals as goal

pub returns-then-number-ge72057594037927936 : goal.returns-then-number-ge72057594037927936
returns-then-number-ge72057594037927936 c =
    rw (← c.loop-octet.invariant)
    (too_large c.loop-octet.number c.loop-octet.octet-index c.args.octets.now c.loop-octet-test.true c.if-number-ge72057594037927936.true)
