use Rattle.std.specs.Prelude.{pos}
use Rattle.bcder.specs.x690.Integer.{AreInteger}
use Rattle.asn1.proofs.Ones.{leaf_once, natural_once}
use Rattle.asn1.proofs.leaves.integers.UnsignedType.values_are_one.Goals as goal

pub returns-clause-once : goal.returns-clause-once
returns-clause-once c = λ k mode ne. leaf_once mode (λ w n. AreInteger (pos n) w) (λ n. n) natural_once
