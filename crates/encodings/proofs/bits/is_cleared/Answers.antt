use Rattle.bcder.proofs.Bits.{cleared_told}
use Rattle.encodings.proofs.bits.is_cleared.Goals as goal

pub returns-in-len1-up : goal.returns-in-len1-up
returns-in-len1-up c = cleared_told c.args.unused c.cleared_octet.result c.args.octets.now c.in-len1-up.len_at_least c.cleared_octet.ensures
