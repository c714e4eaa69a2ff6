use Rattle.std.specs.Int.{w16}
use Rattle.bcder.specs.x690.Integer.{integer_octets}
use Rattle.bcder.specs.calls.Meaning.{Exactly}
use Rattle.bcder.specs.calls.Readers.{IsSigned}
use Rattle.bcder.proofs.Lemmas.{signed_read}
use Rattle.asn1.proofs.ReadingBack.{leaf_read_back}
use Rattle.asn1.proofs.written.numbers.I16Encode.is_read_back.Goals as goal

pub returns : goal.returns
returns c = λ x k. leaf_read_back c.args._tag (λ z. z) x (Exactly (integer_octets x)) (IsSigned w16) (signed_read w16 x k)
