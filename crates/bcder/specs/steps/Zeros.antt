-- Octets that begin with zeros.
use Rattle.std.specs.Prelude.{◌≡◌, ◌≢◌, ◌≤◌, ◌<◌, ◌-◌, ℕ, List, [], ◌∷◌, length, drop}
use Rattle.bcder.specs.x690.Length.{big_endian}

-- there are no octets, or the first is not 0
abbrev pub BeginsAboveZero : List ℕ → Type 0
BeginsAboveZero [] = Unit {0}
BeginsAboveZero (b ∷ w) = b ≢ 0

-- the first n octets are 0, and no more
pub record BeginsWithZeros (w : List ℕ) (n : ℕ) : Type 0 where
  pub within : n ≤ length w
  pub number : big_endian (drop n w) ≡ big_endian w
  pub last : 0 < n → drop (n - 1) w ≡ 0 ∷ drop n w
  pub next : BeginsAboveZero (drop n w)
