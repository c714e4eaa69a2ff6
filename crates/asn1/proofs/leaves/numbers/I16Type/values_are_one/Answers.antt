use Rattle.std.specs.Int.{w16}
use Rattle.bcder.specs.calls.Readers.{IsSigned}
use Rattle.asn1.proofs.Ones.{leaf_once, signed_once}
use Rattle.asn1.proofs.leaves.numbers.I16Type.values_are_one.Goals as goal

pub returns-clause-once : goal.returns-clause-once
returns-clause-once c = λ k mode ne. leaf_once mode (IsSigned w16) (λ z. z) (signed_once w16)
