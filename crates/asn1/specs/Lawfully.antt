-- What is written, with the law of it.
use Rattle.bcder.specs.declared.mode.Mode.{Mode}
use Rattle.bcder.specs.calls.Meaning.{Meaning, IsLawful}

-- it is what M says, and M says one thing at most: a refusal or an encoding
pub record Lawfully (mode : Mode) (M : Meaning → Type 0) (m : Meaning) : Type 0 where
  pub is : M m
  pub law : IsLawful mode M

pub lawfully : (mode : Mode) (M : Meaning → Type 0) → IsLawful mode (Lawfully mode M)
lawfully mode M = record {
  one = record { same = λ m n p q. p.law.one.same m n p.is q.is };
  encodes = λ e p. p.law.encodes e p.is;
}
