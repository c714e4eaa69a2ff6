use Rattle.std.specs.Prelude.{pos}
use Rattle.bcder.specs.x690.Integer.{integer_octets}
use Rattle.bcder.specs.calls.Meaning.{Exactly}
use Rattle.bcder.specs.calls.Readers.{IsUnsigned}
use Rattle.bcder.proofs.Lemmas.{unsigned_read}
use Rattle.asn1.proofs.ReadingBack.{leaf_read_back}
use Rattle.asn1.proofs.written.numbers.U32Encode.is_read_back.Goals as goal

pub returns : goal.returns
returns c = λ x k. leaf_read_back c.args._tag (λ z. z) x (Exactly (integer_octets (pos x))) (IsUnsigned 32) (unsigned_read 32 x k)
