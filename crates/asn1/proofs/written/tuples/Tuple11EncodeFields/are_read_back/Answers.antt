use Rattle.std.proofs.Common.{refl}
use Rattle.asn1.specs.Tuples.{grouped_11}
use Rattle.asn1.proofs.ReadingBack.{fields_back_seen}
use Rattle.asn1.proofs.written.tuples.Tuple11EncodeFields.are_read_back.Goals as goal

pub returns : goal.returns
returns g c = λ x k.
    fields_back_seen grouped_11 (λ s. ((s.0.0, s.0.1, s.0.2, s.0.3, s.1.0, s.1.1, s.1.2, s.1.3, s.1.4, s.1.5, s.1.6), refl)) _ x _ _ _
    (c.are_read_back.ensures (grouped_11 x) k)
