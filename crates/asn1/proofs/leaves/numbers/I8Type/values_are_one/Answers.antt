use Rattle.std.specs.Int.{w8}
use Rattle.bcder.specs.calls.Readers.{IsSigned}
use Rattle.asn1.proofs.Ones.{leaf_once, signed_once}
use Rattle.asn1.proofs.leaves.numbers.I8Type.values_are_one.Goals as goal

pub returns-clause-once : goal.returns-clause-once
returns-clause-once c = λ k mode ne. leaf_once mode (IsSigned w8) (λ z. z) (signed_once w8)
