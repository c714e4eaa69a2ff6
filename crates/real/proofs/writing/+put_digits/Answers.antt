use Rattle.std.proofs.Common.{arith}
use Rattle.real.proofs.Numbers.{tenth_fits, digits_back}
use Rattle.real.proofs.writing.+put_digits.Goals as goal

pub put_digits-requires : goal.put_digits-requires
put_digits-requires t c =
    let h = tenth_fits c.args.count c.args.number c.if-number-eq0.false c.requires.fits in
    let one = h.0 in
    (omega arith, (h.1, omega arith))

pub returns-clause-appended : goal.returns-clause-appended
returns-clause-appended t c = grind (arith, digits_back)
