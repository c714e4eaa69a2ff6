-- Numbers in octets (ITU-T X.690, 8.5.7).
use Rattle.std.specs.Prelude.{ℕ, zero, suc, ◌+◌, ◌-◌, ◌*◌, ◌/◌, ◌%◌, ◌^◌, ◌==◌, nat_lt, nat_le, Bool, false, true, List, [], ◌∷◌, ◌++◌}
use Rattle.std.specs.Prelude.{length, take, drop, if◌then◌else◌, Option, Some, None, ℤ, pos, negsuc, ◌-ℤ◌}
use Rattle.real.specs.Number.{BinaryNumber}

-- the number of octets behind those of n, the most significant first
abbrev pub unsigned_from : ℕ → List ℕ → ℕ
unsigned_from n [] = n
unsigned_from n (b ∷ w) = unsigned_from (n * 256 + b) w

-- 8.5.7.5: an unsigned number
abbrev pub unsigned : List ℕ → ℕ
unsigned w = unsigned_from 0 w

-- 8.5.7.4: a two's complement number
abbrev pub signed : List ℕ → ℤ
signed [] = pos 0
signed (b ∷ w) = if nat_lt b 128 then pos (unsigned (b ∷ w)) else (pos (unsigned (b ∷ w)) -ℤ pos (256 ^ length (b ∷ w)))

-- the first n octets and the others, if there are so many
abbrev pub cut : ℕ → List ℕ → Option (List ℕ × List ℕ)
cut n w = if nat_le n (length w) then Some (take n w, drop n w) else None

-- 8.5.7.4 d: the first nine bits are neither all zero nor all one
abbrev pub is_smallest : List ℕ → Bool
is_smallest [] = false
is_smallest (a ∷ []) = true
is_smallest (a ∷ b ∷ w) = if a == 0 then nat_le 128 b else (if a == 255 then nat_lt b 128 else true)

-- 8.5.7.4: the octets of the exponent and those of the mantissa; form is bits 2 and 1 of the first octet
abbrev pub parts : ℕ → List ℕ → Option (List ℕ × List ℕ)
parts form [] = None
parts form (n ∷ w) = if nat_lt form 3 then cut (form + 1) (n ∷ w) else (if is_smallest (take n w) then cut n w else None)

-- ---- the fewest octets (11.3.1)

-- the octets of n, of which the last k count
abbrev pub big_endian : ℕ → ℕ → List ℕ
big_endian zero n = []
big_endian (suc k) n = if n == 0 then [] else (big_endian k (n / 256) ++ n % 256 ∷ [])

-- an octet of n, or of -1 - n
abbrev pub octet : Bool → ℕ → ℕ
octet negative n = if negative then 255 - n % 256 else n % 256

-- k octets of n, or of -1 - n
abbrev pub complement : Bool → ℕ → ℕ → List ℕ
complement negative zero n = []
complement negative (suc k) n = complement negative k (n / 256) ++ octet negative n ∷ []

-- 8.5.7.4: how many octets the exponent n, or -1 - n, needs
abbrev pub exponent_len : ℕ → ℕ
exponent_len n = if nat_lt n 128 then 1 else (if nat_lt n 32768 then 2 else (if nat_lt n 8388608 then 3 else 4))

-- 8.5.7.4 d: a length octet stands before four octets
abbrev pub with_len : ℕ → List ℕ → List ℕ
with_len k w = if nat_lt k 4 then w else (k ∷ w)

-- 8.5.7, 11.3.1: base 2 and the scaling factor 0
abbrev pub binary_octets_of : Bool → Bool → ℕ → ℕ → List ℕ
binary_octets_of negative below n mantissa =
    (128 + (if negative then 64 else 0) + (exponent_len n - 1))
    ∷ with_len (exponent_len n) (complement below (exponent_len n) n) ++ big_endian 8 mantissa

-- the exponent is n or -1 - n
abbrev pub exponent_octets : Bool → ℤ → ℕ → List ℕ
exponent_octets negative (pos n) mantissa = binary_octets_of negative false n mantissa
exponent_octets negative (negsuc n) mantissa = binary_octets_of negative true n mantissa

-- 11.3.1: the contents octets of a binary number in CER and DER
unfoldable pub binary_octets : BinaryNumber → List ℕ
binary_octets x = exponent_octets x.negative x.exponent x.mantissa
