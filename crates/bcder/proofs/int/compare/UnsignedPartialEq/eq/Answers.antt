use Rattle.bcder.proofs.IntegerOctets.{int_eq_pos}
use Rattle.bcder.proofs.int.compare.UnsignedPartialEq.eq.Goals as goal

pub returns : goal.returns
returns c = rw (c.eq.ensures, c.integer.ensures, c.integer-2.ensures) (int_eq_pos c.args.self.now c.args.other.now)
