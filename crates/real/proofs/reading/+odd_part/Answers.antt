use Rattle.std.proofs.Common.{arith}
use Rattle.real.proofs.Numbers.{half_fits, doubled}
use Rattle.real.proofs.reading.+odd_part.Goals as goal

pub odd_part-odd-requires : goal.odd_part-odd-requires
odd_part-odd-requires t c =
    let h = half_fits c.args.number c.args.bits c.requires.some c.if-number-eq1.false c.requires.fits in
    let one = h.0 in
    (omega arith, (h.1, h.2))

pub returns-clause-same : goal.returns-clause-same
returns-clause-same t c =
    doubled c.args.number c.odd_part-odd.result.0 c.odd_part-odd.result.1 c.if-number-eq1.false c.odd_part-odd.ensures.same
