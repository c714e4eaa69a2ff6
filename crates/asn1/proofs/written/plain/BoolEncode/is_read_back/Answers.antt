use Rattle.bcder.specs.calls.Meaning.{Exactly, truth_octets}
use Rattle.bcder.specs.calls.Readers.{IsTruth}
use Rattle.bcder.proofs.Lemmas.{truth_read}
use Rattle.asn1.proofs.ReadingBack.{leaf_read_back}
use Rattle.asn1.proofs.written.plain.BoolEncode.is_read_back.Goals as goal

pub returns : goal.returns
returns c = λ x k. leaf_read_back c.args._tag (λ z. z) x (Exactly (truth_octets x)) (IsTruth c.args._mode) (truth_read c.args._mode x)
