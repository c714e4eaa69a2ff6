use Rattle.std.specs.Int.{w64}
use Rattle.bcder.specs.calls.Readers.{IsSigned}
use Rattle.asn1.proofs.Ones.{leaf_once, signed_once}
use Rattle.asn1.proofs.leaves.numbers.I64Type.values_are_one.Goals as goal

pub returns-clause-once : goal.returns-clause-once
returns-clause-once c = λ k mode ne. leaf_once mode (IsSigned w64) (λ z. z) (signed_once w64)
