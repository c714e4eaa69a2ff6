-- What is written of a value that may be the default (X.680, 25.10; X.690, 11.5).
use Rattle.std.specs.Prelude.{◌≡◌, ◌⊎◌, Ok}
use Rattle.std.proofs.Common.{inl, inr, ◌∙◌, sym}
use Rattle.bcder.specs.declared.mode.Mode.{Mode}
use Rattle.bcder.specs.x690.Encoding.{AreEncodings}
use Rattle.bcder.specs.calls.Meaning.{NoValues}
use Rattle.bcder.specs.calls.Meaning.{Encoded, Meaning, IsLawful}
use Rattle.bcder.specs.laws.Joined.{NoValues_lawful}

-- nothing if P holds, otherwise what M says
abbrev pub WritesUnless : Type 0 → (Meaning → Type 0) → Meaning → Type 0
WritesUnless P M m = (P × NoValues m) ⊎ ((P → ⊥) × M m)

module _ (P : Type 0) {mode : Mode} {M : Meaning → Type 0} (l : IsLawful mode M) where
  same_unless : (m n : Meaning) → WritesUnless P M m → WritesUnless P M n → m ≡ n
  same_unless m n (inl p) (inl q) = p.1 ∙ sym q.1
  same_unless m n (inl p) (inr q) = absurd (q.0 p.0)
  same_unless m n (inr p) (inl q) = absurd (p.0 q.0)
  same_unless m n (inr p) (inr q) = l.one.same m n p.1 q.1

  unless_encodes : (e : Encoded) → WritesUnless P M (Ok e) → AreEncodings mode e.values e.octets
  unless_encodes e (inl p) = (NoValues_lawful mode).encodes e p.1
  unless_encodes e (inr p) = l.encodes e p.1

  pub unless_lawful : IsLawful mode (WritesUnless P M)
  unless_lawful = record { one = record { same = same_unless }; encodes = unless_encodes }
