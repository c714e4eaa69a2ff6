-- What encoders of a number of equal parts mean.
use Rattle.std.specs.Prelude.{ℕ, zero, suc, List, [], replicate}
use Rattle.std.proofs.Common.{arith}
use Rattle.bcder.specs.declared.mode.Mode.{Mode}
use Rattle.bcder.specs.x690.Identifier.{AreOctets, null_tag}
use Rattle.bcder.specs.calls.Meaning.{Meaning, IsLawful, Exactly, ValueMeans, primitive_meaning}
use Rattle.bcder.specs.calls.Meaning.{EachOf}
use Rattle.bcder.specs.laws.Octets.{AreOctets-nil, AreOctets-cons}
use Rattle.bcder.specs.laws.Meanings.{Exactly_lawful, primitive_lawful}
use Rattle.bcder.specs.laws.Joined.{EachOf_lawful}

-- so many octets 00
abbrev pub zeros : ℕ → List ℕ
zeros n = replicate n 0x00

pub zeros_are : (n : ℕ) → AreOctets (zeros n)
zeros_are zero = AreOctets-nil
zeros_are (suc n) = AreOctets-cons 0x00 (zeros n) (omega arith) (zeros_are n)

-- 8.8: a NULL
abbrev pub NullMeans : Meaning → Type 0
NullMeans = ValueMeans null_tag (primitive_meaning null_tag) (Exactly [])

-- so many, one after the other
abbrev pub NullsMean : ℕ → Meaning → Type 0
NullsMean n = EachOf (λ (u : Unit {0}). NullMeans) (replicate n tt)

pub nulls_lawful : (n : ℕ) (mode : Mode) → IsLawful mode (NullsMean n)
nulls_lawful n mode = EachOf_lawful {P = λ u. Unit {0}} mode (λ u p. primitive_lawful null_tag mode (Exactly_lawful [] AreOctets-nil))
    (replicate n tt) (λ k d below. tt)
