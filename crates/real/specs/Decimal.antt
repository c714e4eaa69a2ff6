-- Decimal numbers in octets (ITU-T X.690, 8.5.8 and 11.3.2): characters of ISO 646, in the forms NR1, NR2 and NR3 of ISO 6093.
use Rattle.std.specs.Prelude.{◌≡◌, ℕ, ◌+◌, ◌-◌, ◌*◌, ◌^◌, ◌<◌, ◌≤◌, ◌==◌, ◌⊎◌, nat_lt, Bool, false, true, List, [], ◌∷◌, ◌++◌}
use Rattle.std.specs.Prelude.{length, map, replicate, if◌then◌else◌, ℤ, pos, negsuc, ◌+ℤ◌, ◌-ℤ◌}
use Rattle.std.specs.Int.Digits.{digits_of}
use Rattle.real.specs.Number.{DecimalNumber, IsDecimalNumber}

-- ---- digits and signs

-- 0 to 9
abbrev pub is_digit : ℕ → Bool
is_digit b = if nat_lt b 0x30 then false else nat_lt b 0x3A

abbrev pub AreDigits : List ℕ → Type 0
AreDigits [] = Unit {0}
AreDigits (b ∷ w) = (is_digit b ≡ true) × AreDigits w

-- the number of the digits of n and those behind them, the most significant first
abbrev pub number_from : ℕ → List ℕ → ℕ
number_from n [] = n
number_from n (b ∷ w) = number_from (n * 10 + (b - 0x30)) w

abbrev pub number : List ℕ → ℕ
number w = number_from 0 w

-- no sign, a plus sign, or a minus sign
abbrev pub IsSign : List ℕ → Bool → Type 0
IsSign w false = (w ≡ []) ⊎ (w ≡ 0x2B ∷ [])
IsSign w true = w ≡ 0x2D ∷ []

-- n, or its negative
abbrev pub with_sign : Bool → ℕ → ℤ
with_sign negative n = if negative then (pos 0 -ℤ pos n) else pos n

-- ---- what octets mean (8.5.8)

-- at least one digit. The crate's limit: a number below 2 to the 32
pub record IsExponent (w : List ℕ) (n : ℕ) : Type 0 where
  pub are_digits : AreDigits w
  pub some : 1 ≤ length w
  pub value : n ≡ number w
  pub below : n < 2 ^ 32

-- the scale of NR3: "E" or "e", a sign and digits
pub record IsScale (w : List ℕ) (z : ℤ) : Type 0 where
  pub letter : ℕ
  pub is_letter : (letter ≡ 0x45) ⊎ (letter ≡ 0x65)
  pub sign : List ℕ
  pub digits : List ℕ
  pub octets : w ≡ letter ∷ sign ++ digits
  pub negative : Bool
  pub is_sign : IsSign sign negative
  pub size : ℕ
  pub is_exponent : IsExponent digits size
  pub value : z ≡ with_sign negative size

-- a decimal mark, which is a full stop or a comma, the digits behind it, and a scale in NR3
pub record IsMarked (form : ℕ) (w fraction : List ℕ) (z : ℤ) : Type 0 where
  pub mark : ℕ
  pub is_mark : (mark ≡ 0x2E) ⊎ (mark ≡ 0x2C)
  pub scale : List ℕ
  pub octets : w ≡ mark ∷ fraction ++ scale
  pub are_digits : AreDigits fraction
  pub is_scale : ((form ≡ 2) × (scale ≡ []) × (z ≡ pos 0)) ⊎ ((form ≡ 3) × IsScale scale z)

-- what stands behind the first digits: nothing in NR1
abbrev pub IsTail : ℕ → List ℕ → List ℕ → ℤ → Type 0
IsTail form w fraction z = ((form ≡ 1) × (w ≡ []) × (fraction ≡ []) × (z ≡ pos 0)) ⊎ IsMarked form w fraction z

-- 8.5.8: spaces, a sign, digits and what stands behind them. The form is 1, 2 or 3 for NR1, NR2 or NR3. Zero is no decimal number (8.5.2,
-- 8.5.9), so there is a digit that isn't 0. The crate's limits: that of the scale, and a number that a `Decimal` holds
pub record IsDecimal (form : ℕ) (w : List ℕ) (x : DecimalNumber) : Type 0 where
  pub spaces : ℕ
  pub sign : List ℕ
  pub whole : List ℕ
  pub tail : List ℕ
  pub octets : w ≡ replicate spaces 0x20 ++ (sign ++ (whole ++ tail))
  pub is_sign : IsSign sign x.negative
  pub are_digits : AreDigits whole
  pub fraction : List ℕ
  pub scale : ℤ
  pub is_tail : IsTail form tail fraction scale
  -- the mantissa is no multiple of ten once the power of ten is taken out of the digits' number
  pub power : ℕ
  pub mantissa_is : number (whole ++ fraction) ≡ x.mantissa * 10 ^ power
  -- each digit behind the mark is a tenth
  pub exponent_is : x.exponent +ℤ pos (length fraction) ≡ scale +ℤ pos power
  pub held : IsDecimalNumber x

-- ---- the octets of CER and DER (11.3.2)

-- 11.3.2.4: the digits of n, with no zero in front
abbrev pub digits : ℕ → List ℕ
digits n = map (λ d. 0x30 + d) (digits_of 10 n)

-- 11.3.2.3: a minus sign if the number is negative
abbrev pub minus : Bool → List ℕ
minus negative = if negative then (0x2D ∷ []) else []

-- 11.3.2.6: "+0", or no plus sign and no zero in front
abbrev pub scale_octets : ℤ → List ℕ
scale_octets (pos n) = if n == 0 then (0x2B ∷ 0x30 ∷ []) else digits n
scale_octets (negsuc n) = 0x2D ∷ digits (n + 1)

-- 11.3.2.1, 11.3.2.2, 11.3.2.5: NR3 with no space, a full stop behind the digits, and "E". The last digit isn't 0 (11.3.2.4), since the
-- mantissa is no multiple of ten
unfoldable pub decimal_octets : DecimalNumber → List ℕ
decimal_octets x = 3 ∷ minus x.negative ++ digits x.mantissa ++ 0x2E ∷ 0x45 ∷ scale_octets x.exponent
