use Rattle.bcder.proofs.IntegerOctets.{octets_equal}
use Rattle.bcder.proofs.int.compare.IntegerPartialEq.eq.Goals as goal

pub returns : goal.returns
returns c = octets_equal c.args.self.now c.args.other.now c.as_slice.result.now c.as_slice-2.result.now c.eq.result c.as_slice.ensures.octets
    c.as_slice-2.ensures.octets c.as_slice.ensures.integer c.as_slice-2.ensures.integer c.eq.ensures
