-- Contents octets of a REAL (ITU-T X.690, 8.5, 11.3).
use Rattle.std.specs.Prelude.{◌≡◌, ◌≢◌, ◌⊎◌, ℕ, ◌+◌, ◌-◌, ◌/◌, ◌%◌, ◌<◌, ◌≤◌, Bool, ◌||◌, ◌==◌, if◌then◌else◌}
use Rattle.std.specs.Prelude.{List, [], ◌∷◌, length, drop, slice_index}
use Rattle.std.specs.Int.{is_in_range}
use Rattle.rules.specs.declared.real.Set.{Set}
use Rattle.rules.specs.declared.real.Set.TheVariants as set

-- ---- 8.5.9

-- plus infinity, minus infinity, not a number, or minus zero
abbrev pub IsSpecial : List ℕ → Type 0
IsSpecial c = (length c ≡ 1) × (0x40 ≤ slice_index c 0) × (slice_index c 0 ≤ 0x43)

-- ---- 8.5.7: a binary encoding

-- 8.5.7.4: bits 2 and 1 tell the number of octets of the exponent, or that the next octet tells it
abbrev pub exponent_at : List ℕ → ℕ
exponent_at c = if slice_index c 0 % 4 == 3 then 2 else 1

abbrev pub exponent_len : List ℕ → ℕ
exponent_len c = if slice_index c 0 % 4 == 3 then slice_index c 1 else slice_index c 0 % 4 + 1

-- 8.5.7.5: the octets behind it are those of the number N
abbrev pub number_at : List ℕ → ℕ
number_at c = exponent_at c + exponent_len c

-- the first nine bits of an exponent of two octets or more aren't all equal
abbrev pub IsShort : List ℕ → Type 0
IsShort c =
    2 ≤ exponent_len c
    → (slice_index c (exponent_at c) ≡ 0x00) × (slice_index c (exponent_at c + 1) < 0x80)
    ⊎ (slice_index c (exponent_at c) ≡ 0xFF) × (0x80 ≤ slice_index c (exponent_at c + 1))
    → ⊥

pub record IsBinary (c : List ℕ) : Type 0 where
  -- 8.5.6 a
  pub form : 0x80 ≤ slice_index c 0
  -- 8.5.7.2: the base is 2, 8 or 16
  pub base : slice_index c 0 / 16 % 4 ≢ 3
  -- 8.5.7.4 d
  pub exponent : 0 < exponent_len c
  pub short : slice_index c 0 % 4 ≡ 3 → IsShort c
  -- 8.5.7: N is positive
  pub positive : (i : ℕ) × (number_at c ≤ i) × (i < length c) × (slice_index c i ≢ 0)

-- 11.3.1: base 2, the factor 0, an odd number N, and the fewest octets
pub record IsStrictBinary (c : List ℕ) : Type 0 where
  pub binary : IsBinary c
  pub base : slice_index c 0 / 16 % 4 ≡ 0
  pub factor : slice_index c 0 / 4 % 4 ≡ 0
  pub exponent : IsShort c
  pub len : slice_index c 0 % 4 ≡ 3 → 4 ≤ exponent_len c
  pub number : slice_index c (number_at c) ≢ 0
  pub odd : slice_index c (length c - 1) % 2 ≡ 1

-- ---- 8.5.8: a decimal encoding, by ISO 6093

-- SPACE; digits; 0, FULL STOP and COMMA; signs; MINUS SIGN; FULL STOP and COMMA; E and e
abbrev pub test_of : Set → ℕ → Bool
test_of set.Spaces b = b == 0x20
test_of set.Digits b = is_in_range 0x30 0x39 b
test_of set.Zeros b = (b == 0x30 || b == 0x2E) || b == 0x2C
test_of set.Signs b = b == 0x2B || b == 0x2D
test_of set.Minus b = b == 0x2D
test_of set.Points b = b == 0x2E || b == 0x2C
test_of set.Exponents b = b == 0x45 || b == 0x65

-- the octets behind all of a set that come first
abbrev pub past : Set → List ℕ → List ℕ
past s [] = []
past s (b ∷ w) = if test_of s b then past s w else b ∷ w

-- the octets behind one of a set, if it comes first
abbrev pub past_one : Set → List ℕ → List ℕ
past_one s [] = []
past_one s (b ∷ w) = if test_of s b then w else b ∷ w

-- one of a set comes first
abbrev pub Begins : Set → List ℕ → Type 0
Begins s w = length (past_one s w) < length w

-- a digit other than 0 comes first
abbrev pub BeginsAboveZero : List ℕ → Type 0
BeginsAboveZero w = (0x31 ≤ slice_index w 0) × (slice_index w 0 ≤ 0x39)

-- digits, and nothing else
abbrev pub AreDigits : List ℕ → Type 0
AreDigits w = Begins set.Digits w × (past set.Digits w ≡ [])

-- the octets behind digits, and those behind a decimal mark, digits and what is behind it
abbrev pub past_point : List ℕ → List ℕ
past_point w = past_one set.Points (past set.Digits w)

abbrev pub past_number : List ℕ → List ℕ
past_number w = past set.Digits (past_point w)

-- digits before a decimal mark or behind it
abbrev pub HasDigits : List ℕ → Type 0
HasDigits w = Begins set.Digits w ⊎ Begins set.Digits (past_point w)

-- E, a sign or none, and digits
abbrev pub IsExponent : List ℕ → Type 0
IsExponent w = Begins set.Exponents w × AreDigits (past_one set.Signs (past_one set.Exponents w))

-- NR1: digits; NR2: digits with a decimal mark; NR3: digits with a decimal mark or without, and an exponent
abbrev pub IsNumber : ℕ → List ℕ → Type 0
IsNumber form w =
    (form ≡ 1) × AreDigits w
    ⊎ (form ≡ 2) × HasDigits w × Begins set.Points (past set.Digits w) × (past_number w ≡ [])
    ⊎ (form ≡ 3) × HasDigits w × IsExponent (past_number w)

-- the number is behind spaces and a sign, if there are such
abbrev pub unsigned_of : List ℕ → List ℕ
unsigned_of c = past_one set.Signs (past set.Spaces (drop 1 c))

pub record IsDecimal (c : List ℕ) : Type 0 where
  pub form : IsNumber (slice_index c 0) (unsigned_of c)
  -- 8.5.2: it isn't zero
  pub above_zero : BeginsAboveZero (past set.Zeros (unsigned_of c))

-- 11.3.2.6: +0, or a number without leading zeros
abbrev pub IsStrictExponent : List ℕ → Type 0
IsStrictExponent w =
    (w ≡ 0x2B ∷ 0x30 ∷ [])
    ⊎ BeginsAboveZero (past_one set.Minus w) × (past set.Digits (past_one set.Minus w) ≡ [])

-- 11.3.2.3: the number is behind MINUS SIGN, if it is negative
abbrev pub strict_unsigned_of : List ℕ → List ℕ
strict_unsigned_of c = past_one set.Minus (drop 1 c)

-- 11.3.2: NR3; digits of which the first and the last aren't 0, FULL STOP, E, and an exponent
pub record IsStrictNumber (w : List ℕ) : Type 0 where
  pub first : BeginsAboveZero w
  pub last : slice_index w (length w - length (past set.Digits w) - 1) ≢ 0x30
  pub point : slice_index (past set.Digits w) 0 ≡ 0x2E
  pub mark : slice_index (past set.Digits w) 1 ≡ 0x45
  pub exponent : IsStrictExponent (drop 2 (past set.Digits w))

abbrev pub IsStrictDecimal : List ℕ → Type 0
IsStrictDecimal c = (slice_index c 0 ≡ 3) × IsStrictNumber (strict_unsigned_of c)

-- ---- all

-- 8.5: no octets for zero, a special value, or a binary or a decimal encoding
abbrev pub IsReal : List ℕ → Type 0
IsReal c = (length c ≡ 0) ⊎ IsSpecial c ⊎ IsBinary c ⊎ IsDecimal c

-- 11.3: the same in CER and DER
abbrev pub IsStrictReal : List ℕ → Type 0
IsStrictReal c = (length c ≡ 0) ⊎ IsSpecial c ⊎ IsStrictBinary c ⊎ IsStrictDecimal c
