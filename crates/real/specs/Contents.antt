-- Which contents octets mean which REAL (ITU-T X.690, 8.5 and 11.3).
use Rattle.std.specs.Prelude.{◌≡◌, ℕ, ◌+◌, ◌*◌, ◌/◌, ◌%◌, ◌^◌, ◌<◌, ◌≤◌, ◌==◌, ◌⊎◌, Bool, true, false, List, [], ◌∷◌, length, Some}
use Rattle.std.specs.Prelude.{pos, ◌+ℤ◌, ◌*ℤ◌}
use Rattle.real.specs.Number.{BinaryNumber, IsBinaryNumber, DecimalNumber, IsDecimalNumber}
use Rattle.real.specs.Octets.{unsigned, signed, parts, binary_octets}
use Rattle.real.specs.Decimal.{IsDecimal, decimal_octets}
use Rattle.real.specs.declared.value.Real.{Real}
use Rattle.real.specs.declared.value.Real.TheVariants.{Zero, MinusZero, Infinity, MinusInfinity, NotANumber, Binary, Decimal}

-- 8.5.7.2: the base by bits 6 and 5 of the first octet, as a power of two: 2, 8 or 16
abbrev pub IsBase : ℕ → ℕ → Type 0
IsBase bits k = ((bits ≡ 0) × (k ≡ 1)) ⊎ (((bits ≡ 1) × (k ≡ 3)) ⊎ ((bits ≡ 2) × (k ≡ 4)))

-- 8.5.7: sign, base, scaling factor, exponent and mantissa. The crate's limits: an exponent of at most four octets, a mantissa
-- below 2 to the 64, and a number that a `Binary` holds
pub record IsBinary (first : ℕ) (rest : List ℕ) (x : BinaryNumber) : Type 0 where
  -- 8.5.6: bit 8
  pub binary : 128 ≤ first
  -- 8.5.7.1: bit 7 is the sign
  pub sign : x.negative ≡ (first / 64 % 2 == 1)
  pub base : ℕ
  pub is_base : IsBase (first / 16 % 4) base
  -- 8.5.7.4, 8.5.7.5
  pub exponent : List ℕ
  pub mantissa : List ℕ
  pub parts : parts (first % 4) rest ≡ Some (exponent, mantissa)
  pub few : length exponent ≤ 4
  pub below : unsigned mantissa < 2 ^ 64
  -- the mantissa is odd once the power of two is taken out of it; 8.5.7.3: bits 4 and 3 are the scaling factor
  pub power : ℕ
  pub mantissa_is : unsigned mantissa ≡ x.mantissa * 2 ^ power
  pub exponent_is : x.exponent ≡ (signed exponent *ℤ pos base) +ℤ pos (first / 4 % 4 + power)
  pub held : IsBinaryNumber x

-- a first octet and those behind it
abbrev pub MeansBinary : List ℕ → BinaryNumber → Type 0
MeansBinary [] x = ⊥
MeansBinary (first ∷ rest) x = IsBinary first rest x

-- 8.5.6, 8.5.8: bits 8 and 7 are 0, and bits 6 to 1 are the form
abbrev pub MeansDecimal : List ℕ → DecimalNumber → Type 0
MeansDecimal [] x = ⊥
MeansDecimal (first ∷ rest) x = IsDecimal first rest x

-- 8.5.2, 8.5.9: what contents octets mean in BER
abbrev pub Means : List ℕ → Real → Type 0
Means w Zero = w ≡ []
Means w Infinity = w ≡ 0x40 ∷ []
Means w MinusInfinity = w ≡ 0x41 ∷ []
Means w NotANumber = w ≡ 0x42 ∷ []
Means w MinusZero = w ≡ 0x43 ∷ []
Means w (Binary x) = MeansBinary w x
Means w (Decimal x) = MeansDecimal w x

-- the contents octets in CER and DER
abbrev pub real_octets : Real → List ℕ
real_octets Zero = []
real_octets Infinity = 0x40 ∷ []
real_octets MinusInfinity = 0x41 ∷ []
real_octets NotANumber = 0x42 ∷ []
real_octets MinusZero = 0x43 ∷ []
real_octets (Binary x) = binary_octets x
real_octets (Decimal x) = decimal_octets x

-- 11.3.1: in CER and DER base 2, the scaling factor 0, an odd mantissa, and both numbers in the fewest octets;
-- 11.3.2: or base 10 in one form
abbrev pub IsReal : Bool → List ℕ → Real → Type 0
IsReal false w x = Means w x
IsReal true w x = Means w x × (w ≡ real_octets x)

-- a value that a `Real` holds
abbrev pub IsHeld : Real → Type 0
IsHeld (Binary x) = IsBinaryNumber x
IsHeld (Decimal x) = IsDecimalNumber x
IsHeld _ = Unit {0}
