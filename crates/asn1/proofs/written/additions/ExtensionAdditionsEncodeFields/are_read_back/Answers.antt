use Rattle.asn1.proofs.ReadingBack.{nothing_read_back}
use Rattle.asn1.proofs.written.additions.ExtensionAdditionsEncodeFields.are_read_back.Goals as goal

pub returns : goal.returns
returns c = λ x k. nothing_read_back x
