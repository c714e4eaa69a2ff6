use Rattle.std.proofs.Common.{refl}
use Rattle.asn1.specs.Tuples.{first_of_4}
use Rattle.asn1.proofs.Rows.{row_read_back}
use Rattle.asn1.proofs.written.tuples.Tuple4EncodeFields.are_read_back.Goals as goal

pub returns : goal.returns
returns g c = λ x k.
    row_read_back first_of_4 (λ s. ((s.0, s.1.0, s.1.1, s.1.2), refl)) _ x _ _ _ _
    (c.are_read_back.ensures (first_of_4 x) k)
