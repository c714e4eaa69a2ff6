use Rattle.asn1.proofs.Kept.{kept_read_back}
use Rattle.asn1.proofs.any.AnyEncode.is_read_back.Goals as goal

pub returns : goal.returns
returns c = λ x k. kept_read_back c.args._tag c.args._mode x k
