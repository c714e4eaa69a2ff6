use Rattle.bcder.specs.laws.Order.{int_cmp_pos}
use Rattle.bcder.proofs.int.compare.UnsignedOrd.cmp.Goals as goal

pub returns : goal.returns
returns c = rw (c.cmp.ensures, c.integer.ensures, c.integer-2.ensures) (int_cmp_pos c.args.self.now c.args.other.now)
