use Rattle.bcder.specs.x690.Integer.{AreInteger}
use Rattle.asn1.proofs.Ones.{leaf_once, integer_once}
use Rattle.asn1.proofs.leaves.integers.IntegerType.values_are_one.Goals as goal

pub returns-clause-once : goal.returns-clause-once
returns-clause-once c = λ k mode ne. leaf_once mode (λ w z. AreInteger z w) (λ z. z) integer_once
