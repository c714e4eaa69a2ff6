use Rattle.std.proofs.Common.{◌≡◌, [], refl}
use Rattle.bcder.specs.calls.Meaning.{Exactly}
use Rattle.bcder.specs.calls.Readers.{IsNull}
use Rattle.asn1.proofs.ReadingBack.{leaf_read_back}
use Rattle.asn1.proofs.written.plain.UnitEncode.is_read_back.Goals as goal

pub returns : goal.returns
returns c = λ x k.
    leaf_read_back c.args._tag (λ z. tt) x (Exactly []) IsNull
    (record { contents = []; written = refl; only = λ v p. let same : v ≡ [] = cc in same; read = refl; no_other = λ y p. refl })
