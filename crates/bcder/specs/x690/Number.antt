-- Integers by sign and magnitude: n, or -1 - n if negative.
use Rattle.std.specs.Prelude.{◌≡◌, ℕ, ◌+◌, ◌*◌, ◌^◌, ◌<◌, Bool, List, [], ◌∷◌, length, ℤ, pos, negsuc, Result, MatchResult}
use Rattle.bcder.specs.x690.Integer.{octet, AreInteger}

-- the unsigned number that octets are, or that they are with all bits inverted
abbrev pub magnitude : Bool → List ℕ → ℕ
magnitude negative [] = 0
magnitude negative (b ∷ w) = octet negative b * 256 ^ length w + magnitude negative w

-- the magnitude fits in 128 bits
abbrev pub HasMagnitude : ℤ → Type 0
HasMagnitude (pos n) = n < 2 ^ 128
HasMagnitude (negsuc n) = n < 2 ^ 128

-- octets are contents octets of the number x of a type, whose numbers are those in range
pub record IsNumber {T : Type 0} (value : T → ℤ) (InRange : ℤ → Type 0) (w : List ℕ) (x : T) : Type 0 where
  pub integer : AreInteger (value x) w
  pub fits : InRange (value x)

-- an integer is converted to a type, exactly if the type holds it
abbrev pub ConvertsTo : {T E : Type 0} → (T → ℤ) → (ℤ → Type 0) → ℤ → Result T E → Type 0
ConvertsTo value InRange z r = MatchResult r (λ x. (value x ≡ z) × InRange z) (λ _. InRange z → ⊥)

-- octets are contents octets of no number in range
abbrev pub IsNoNumber : (ℤ → Type 0) → List ℕ → Type 0
IsNoNumber InRange w = (z : ℤ) → AreInteger z w → InRange z → ⊥
