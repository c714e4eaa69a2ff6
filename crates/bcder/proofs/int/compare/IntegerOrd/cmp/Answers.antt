use Rattle.std.proofs.Common.{◌∙◌}
use Rattle.bcder.specs.laws.Order.{order_of_integers}
use Rattle.bcder.proofs.int.compare.IntegerOrd.cmp.Goals as goal

pub returns : goal.returns
returns c = c.integer_order.ensures ∙ order_of_integers c.args.self.now c.args.other.now c.as_slice.result.now c.as_slice-2.result.now c.as_slice.ensures.octets
    c.as_slice-2.ensures.octets c.as_slice.ensures.integer c.as_slice-2.ensures.integer
