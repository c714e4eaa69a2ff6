use Rattle.std.proofs.Common.{sym}
use Rattle.asn1.proofs.written.sets.SetOfEncode.write_encoded_as.Goals as goal

pub returns : goal.returns
returns g c = rw (sym c.self.view_is) (rw c.sequence_as.ensures at c.write_encoded.ensures)
