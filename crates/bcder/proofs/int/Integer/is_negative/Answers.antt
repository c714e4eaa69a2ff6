use Rattle.bcder.proofs.IntegerOctets.{negative_told}
use Rattle.bcder.proofs.int.Integer.is_negative.Goals as goal

pub returns : goal.returns
returns c = negative_told c.args.self.now c.as_slice.result.now c.is_negative_at.result c.as_slice.ensures.octets c.as_slice.ensures.integer
    c.is_negative_at.ensures
