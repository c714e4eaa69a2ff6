use Rattle.std.proofs.Common.{arith}
use Rattle.real.proofs.Numbers.{counts, fits_before}
use Rattle.real.proofs.writing.+put_big_endian.Goals as goal

pub put_big_endian-requires : goal.put_big_endian-requires
put_big_endian-requires t c =
    let some = counts c.args.count c.args.number c.if-number-eq0.false c.requires.fits in
    (omega arith, (fits_before c.args.count c.args.number c.if-number-eq0.false c.requires.fits, omega arith))
