use Rattle.asn1.specs.NamedBitLists.{AreNamedBits, named_bits}
use Rattle.asn1.proofs.Ones.{leaf_once}
use Rattle.asn1.proofs.NamedBack.{named_once}
use Rattle.asn1.proofs.leaves.named_bits.NamedBitsType.values_are_one.Goals as goal

pub returns-clause-once : goal.returns-clause-once
returns-clause-once c = λ k mode ne. leaf_once mode (AreNamedBits mode) named_bits (named_once mode ne)
