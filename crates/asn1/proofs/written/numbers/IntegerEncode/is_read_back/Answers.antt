use Rattle.bcder.specs.x690.Integer.{AreInteger, integer_octets}
use Rattle.bcder.specs.calls.Meaning.{Exactly}
use Rattle.bcder.proofs.Lemmas.{integer_read}
use Rattle.asn1.proofs.ReadingBack.{leaf_read_back}
use Rattle.asn1.proofs.written.numbers.IntegerEncode.is_read_back.Goals as goal

pub returns : goal.returns
returns c = λ x k. leaf_read_back c.args._tag (λ z. z) x (Exactly (integer_octets x)) (λ w z. AreInteger z w) (integer_read x)
