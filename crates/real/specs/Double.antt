-- The values of 64-bit floating point numbers (IEEE 754, binary64), by their bits.
use Rattle.std.specs.Prelude.{◌≡◌, ℕ, ◌+◌, ◌-◌, ◌*◌, ◌/◌, ◌%◌, ◌^◌, ◌<◌, ◌==◌, if◌then◌else◌, pos, ◌+ℤ◌}
use Rattle.real.specs.Number.{BinaryNumber, IsBinaryNumber, IsSame}
use Rattle.real.specs.declared.value.Real.{Real}
use Rattle.real.specs.declared.value.Real.TheVariants.{Zero, MinusZero, Infinity, MinusInfinity, NotANumber, Binary, Decimal}

-- the eleven bits of the exponent
abbrev pub biased : ℕ → ℕ
biased bits = bits / 4503599627370496 % 2048

-- the 52 bits of the fraction, before which a one stands unless the exponent's bits are zero
abbrev pub significand : ℕ → ℕ
significand bits = if biased bits == 0 then (bits % 4503599627370496) else (bits % 4503599627370496 + 4503599627370496)

-- the number is the significand times two to the power of the exponent, less 1075, or of -1074
pub record IsDouble (bits : ℕ) (x : BinaryNumber) : Type 0 where
  pub finite : biased bits < 2047
  pub sign : x.negative ≡ (bits / 9223372036854775808 == 1)
  pub power : ℕ
  pub significand_is : significand bits ≡ x.mantissa * 2 ^ power
  pub exponent_is : x.exponent +ℤ pos 1074 ≡ pos (biased bits - 1 + power)
  pub held : IsBinaryNumber x

-- what 64 bits mean; a decimal number if its binary number is theirs
abbrev pub MeansDouble : ℕ → Real → Type 0
MeansDouble bits Zero = bits ≡ 0
MeansDouble bits MinusZero = bits ≡ 9223372036854775808
MeansDouble bits Infinity = bits ≡ 9218868437227405312
MeansDouble bits MinusInfinity = bits ≡ 18442240474082181120
MeansDouble bits NotANumber = (biased bits ≡ 2047) × (0 < bits % 4503599627370496)
MeansDouble bits (Binary x) = IsDouble bits x
MeansDouble bits (Decimal x) = (y : BinaryNumber) × IsSame x y × IsDouble bits y
