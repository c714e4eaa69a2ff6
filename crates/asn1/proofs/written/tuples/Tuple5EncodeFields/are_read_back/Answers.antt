use Rattle.std.proofs.Common.{refl}
use Rattle.asn1.specs.Tuples.{grouped_5}
use Rattle.asn1.proofs.ReadingBack.{fields_back_seen}
use Rattle.asn1.proofs.written.tuples.Tuple5EncodeFields.are_read_back.Goals as goal

pub returns : goal.returns
returns g c = λ x k.
    fields_back_seen grouped_5 (λ s. ((s.0.0, s.0.1, s.0.2, s.0.3, s.1), refl)) _ x _ _ _
    (c.are_read_back.ensures (grouped_5 x) k)
