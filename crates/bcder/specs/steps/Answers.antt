-- What a reader of octets returns, by what the plain programs read.
use Rattle.std.specs.Prelude.{◌≡◌, ℕ, List, Option, Some, None, MatchOption}
use Rattle.std.specs.Borrow.{Bor}

-- a value and the octets after it, or none
abbrev pub Answers : {A : Type 0} → Option (A × Bor (List ℕ)) → Option (A × List ℕ) → Type 0
Answers r o = MatchOption r (o ≡ None) (λ x. o ≡ Some (x.0, x.1.now))
