use Rattle.std.specs.Prelude.{pos}
use Rattle.bcder.specs.x690.Integer.{AreInteger, integer_octets}
use Rattle.bcder.specs.calls.Meaning.{Exactly}
use Rattle.bcder.proofs.Lemmas.{natural_read}
use Rattle.asn1.proofs.ReadingBack.{leaf_read_back}
use Rattle.asn1.proofs.written.numbers.UnsignedEncode.is_read_back.Goals as goal

pub returns : goal.returns
returns c = λ x k. leaf_read_back c.args._tag (λ z. z) x (Exactly (integer_octets (pos x))) (λ w n. AreInteger (pos n) w) (natural_read x)
