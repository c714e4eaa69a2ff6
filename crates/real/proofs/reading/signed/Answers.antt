use Rattle.std.proofs.Common.{arith}
use Rattle.std.proofs.lemmas.Int.{ints}
use Rattle.real.proofs.Numbers.{few_octets}
use Rattle.real.proofs.reading.signed.Goals as goal

pub returns-else-octets-lt128-clause-low : goal.returns-else-octets-lt128-clause-low
returns-else-octets-lt128-clause-low c =
    let f = few_octets _ c.requires.few in
    let u = c.unit.ensures in
    omega (arith, ints)
