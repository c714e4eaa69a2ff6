use Rattle.std.proofs.Common.{sym}
use Rattle.asn1.proofs.written.sets.SetOfEncode.encoded_len_as.Goals as goal

pub returns : goal.returns
returns g c = rw (sym c.self.view_is) (rw c.sequence_as.ensures at c.encoded_len.ensures)
