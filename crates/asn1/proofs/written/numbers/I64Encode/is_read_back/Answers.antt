use Rattle.std.specs.Int.{w64}
use Rattle.bcder.specs.x690.Integer.{integer_octets}
use Rattle.bcder.specs.calls.Meaning.{Exactly}
use Rattle.bcder.specs.calls.Readers.{IsSigned}
use Rattle.bcder.proofs.Lemmas.{signed_read}
use Rattle.asn1.proofs.ReadingBack.{leaf_read_back}
use Rattle.asn1.proofs.written.numbers.I64Encode.is_read_back.Goals as goal

pub returns : goal.returns
returns c = λ x k. leaf_read_back c.args._tag (λ z. z) x (Exactly (integer_octets x)) (IsSigned w64) (signed_read w64 x k)
