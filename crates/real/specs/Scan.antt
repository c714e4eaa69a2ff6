-- Steps in which a decimal number is read, for the functions of src/text.rt alone.
use Rattle.std.specs.Prelude.{◌≡◌, ℕ, ◌*◌, ◌%◌, ◌^◌, ◌<◌, ◌≤◌, ◌==◌, ◌⊎◌, Bool, false, List, [], ◌∷◌, take, drop, if◌then◌else◌}
use Rattle.std.specs.List.{prefix_len}
use Rattle.real.specs.Decimal.{is_digit, number}

abbrev pub is_space : ℕ → Bool
is_space b = b == 0x20

-- whether a minus sign stands first
abbrev pub is_minus : List ℕ → Bool
is_minus [] = false
is_minus (b ∷ w) = b == 0x2D

-- what stands behind a sign, if there is one
abbrev pub behind_sign : List ℕ → List ℕ
behind_sign [] = []
behind_sign (b ∷ w) = if b == 0x2B then w else (if b == 0x2D then w else (b ∷ w))

-- what stands behind the spaces in front
abbrev pub unspaced : List ℕ → List ℕ
unspaced w = drop (prefix_len is_space w) w

-- what stands behind the spaces and the sign
abbrev pub body : List ℕ → List ℕ
body w = behind_sign (unspaced w)

-- the digits in front
abbrev pub whole_of : List ℕ → List ℕ
whole_of w = take (prefix_len is_digit (body w)) (body w)

-- what stands behind them
abbrev pub tail_of : List ℕ → List ℕ
tail_of w = drop (prefix_len is_digit (body w)) (body w)

-- n is m with k zeros behind it, and m is no multiple of ten, or all are zero
pub record IsStripped (n m k : ℕ) : Type 0 where
  pub value : n ≡ m * 10 ^ k
  pub kind : ((m ≡ 0) × (k ≡ 0)) ⊎ (0 < m % 10)

-- without the zeros at its end n has more than 64 bits
pub record IsTooLarge (n : ℕ) : Type 0 where
  pub part : ℕ
  pub zeros : ℕ
  pub value : n ≡ part * 10 ^ zeros
  pub last : 0 < part % 10
  pub large : 2 ^ 64 ≤ part

-- the digits' number is m with zeros behind it, and m fits
pub record IsMantissa (w : List ℕ) (m power : ℕ) : Type 0 where
  pub value : number w ≡ m * 10 ^ power
  pub last : 0 < m % 10
  pub below : m < 2 ^ 64
