use Rattle.bcder.specs.calls.Readers.{IsUnsigned}
use Rattle.asn1.proofs.Ones.{leaf_once, unsigned_once}
use Rattle.asn1.proofs.leaves.numbers.U32Type.values_are_one.Goals as goal

pub returns-clause-once : goal.returns-clause-once
returns-clause-once c = λ k mode ne. leaf_once mode (IsUnsigned 32) (λ z. z) (unsigned_once 32)
