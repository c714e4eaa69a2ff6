-- Binary and decimal numbers.
use Rattle.std.specs.Prelude.{◌≡◌, ℕ, suc, ◌*◌, ◌%◌, ◌^◌, ◌<◌, Bool, ℤ, pos, negsuc, ◌+ℤ◌}
use Rattle.std.specs.Int.{w32}
use Rattle.std.specs.Int.RustNames.{FitsSigned}

-- mantissa times two to the power of exponent, or its negative
pub record BinaryNumber : Type 0 where
  pub negative : Bool
  pub mantissa : ℕ
  pub exponent : ℤ

-- what a `Binary` holds: an odd mantissa, so that equal numbers are equal, of 64 bits, and an exponent of 32 bits
pub record IsBinaryNumber (x : BinaryNumber) : Type 0 where
  pub odd : x.mantissa % 2 ≡ 1
  pub mantissa : x.mantissa < 2 ^ 64
  pub exponent : FitsSigned w32 x.exponent

-- mantissa times two to the power of exponent, or its negative, in the one form that a `Binary` holds
pub record IsBinaryOf (negative : Bool) (mantissa : ℕ) (exponent : ℤ) (x : BinaryNumber) : Type 0 where
  pub sign : x.negative ≡ negative
  pub power : ℕ
  pub mantissa_is : mantissa ≡ x.mantissa * 2 ^ power
  pub exponent_is : x.exponent ≡ exponent +ℤ pos power
  pub held : IsBinaryNumber x

-- mantissa times ten to the power of exponent, or its negative
pub record DecimalNumber : Type 0 where
  pub negative : Bool
  pub mantissa : ℕ
  pub exponent : ℤ

-- what a `Decimal` holds: a mantissa that is no multiple of ten, so that equal numbers are equal, and that isn't zero
pub record IsDecimalNumber (x : DecimalNumber) : Type 0 where
  pub last : 0 < x.mantissa % 10
  pub mantissa : x.mantissa < 2 ^ 64
  pub exponent : FitsSigned w32 x.exponent

-- mantissa times ten to the power of exponent, or its negative, in the one form that a `Decimal` holds
pub record IsDecimalOf (negative : Bool) (mantissa : ℕ) (exponent : ℤ) (x : DecimalNumber) : Type 0 where
  pub sign : x.negative ≡ negative
  pub power : ℕ
  pub mantissa_is : mantissa ≡ x.mantissa * 10 ^ power
  pub exponent_is : x.exponent ≡ exponent +ℤ pos power
  pub held : IsDecimalNumber x

-- m times five to the power of e is n
abbrev pub IsFives : ℕ → ℤ → ℕ → Type 0
IsFives m (pos k) n = m * 5 ^ k ≡ n
IsFives m (negsuc k) n = m ≡ n * 5 ^ suc k

-- a decimal number and a binary one are the same number: ten is five times two, and power is how many twos are taken out of the mantissa
pub record IsSame (x : DecimalNumber) (y : BinaryNumber) : Type 0 where
  pub sign : y.negative ≡ x.negative
  pub power : ℕ
  pub mantissa : IsFives x.mantissa x.exponent (y.mantissa * 2 ^ power)
  pub exponent : y.exponent ≡ x.exponent +ℤ pos power
  pub held : IsBinaryNumber y
