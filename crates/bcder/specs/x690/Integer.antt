-- Contents octets of integers and booleans (ITU-T X.690, 8.2, 8.3, 11.1).
use Rattle.std.specs.Prelude.{◌≡◌, ℕ, zero, suc, ◌+◌, ◌/◌, ◌%◌, ◌-◌, ◌^◌, ◌≤◌, ◌<◌, ℤ, pos, negsuc, ◌-ℤ◌, Bool, true, false, List, []}
use Rattle.std.specs.Prelude.{◌∷◌, ◌++◌, length, nat_lt, nat_le, not, ◌==◌, if◌then◌else◌, Option, Some, None}
use Rattle.bcder.specs.declared.mode.Mode.{Mode}
use Rattle.bcder.specs.declared.mode.Mode.TheVariants.{Ber, Cer, Der}
use Rattle.std.specs.declared.cmp.Ordering.{Ordering}
use Rattle.std.specs.declared.cmp.Ordering.TheVariants.{Less, Greater}
use Rattle.std.specs.Ordering.{nat_cmp, int_cmp, ordering_then}
use Rattle.std.specs.Cmp.Lexicographic.{slice_cmp}
use Rattle.bcder.specs.x690.Identifier.{AreOctets}
use Rattle.bcder.specs.x690.Length.{big_endian}

-- 8.3.3: the two's complement number that octets are, the most significant first; 0 for no octets
abbrev pub number : List ℕ → ℤ
number [] = pos 0
number (b ∷ w) = if nat_lt b 0x80 then pos (big_endian (b ∷ w)) else pos (big_endian (b ∷ w)) -ℤ pos (256 ^ length (b ∷ w))

-- 8.3.1, 8.3.2: at least one octet, and if there are more, the first nine bits are neither all zero nor all one
abbrev pub IsSmallest : List ℕ → Type 0
IsSmallest [] = ⊥
IsSmallest (a ∷ []) = Unit {0}
IsSmallest (a ∷ b ∷ w) = (a ≡ 0x00 → 0x80 ≤ b) × (a ≡ 0xFF → b < 0x80)

-- bit 8 of the first octet is the sign
abbrev pub Leads : Bool → List ℕ → Type 0
Leads negative [] = ⊥
Leads false (b ∷ w) = b < 0x80
Leads true (b ∷ w) = 0x80 ≤ b

-- w are contents octets of the integer z
pub record AreInteger (z : ℤ) (w : List ℕ) : Type 0 where
  pub smallest : IsSmallest w
  pub is : number w ≡ z

-- an octet of n, or of -1 - n
abbrev pub octet : Bool → ℕ → ℕ
octet negative n = if negative then 255 - n else n

-- x is n, or n with all its bits inverted in k octets
abbrev pub IsTurned : Bool → ℕ → ℕ → ℕ → Type 0
IsTurned false k n x = x ≡ n
IsTurned true k n x = x + n + 1 ≡ 256 ^ k

-- the octets of n, or of -1 - n, at most k of them after the first
abbrev pub octets_within : ℕ → Bool → ℕ → List ℕ
octets_within zero negative n = octet negative (n % 256) ∷ []
octets_within (suc k) negative n =
    if nat_lt n 128 then octet negative n ∷ [] else octets_within k negative (n / 256) ++ octet negative (n % 256) ∷ []

-- the contents octets of an integer
unfoldable pub integer_octets : ℤ → List ℕ
integer_octets (pos n) = octets_within n false n
integer_octets (negsuc n) = octets_within n true n

-- 11.1: the boolean of an octet in CER and DER, in which all bits of true are one
abbrev pub strict_truth : ℕ → Option Bool
strict_truth b = if b == 0x00 then Some false else if b == 0xFF then Some true else None

-- 8.2, 11.1: the boolean that contents octets of a BOOLEAN value are, if they are any
abbrev pub truth : Mode → List ℕ → Option Bool
truth mode [] = None
truth Ber (b ∷ []) = Some (not (b == 0x00))
truth Cer (b ∷ []) = strict_truth b
truth Der (b ∷ []) = strict_truth b
truth mode (a ∷ b ∷ w) = None

-- ---- the laws of these octets

-- each integer has contents octets
abbrev pub SomeInteger : Type 0
SomeInteger = (z : ℤ) → AreOctets (integer_octets z) × AreInteger z (integer_octets z)

-- each integer has at most one list of contents octets
abbrev pub OneInteger : Type 0
OneInteger = (z : ℤ) (v w : List ℕ) → AreOctets v → AreOctets w → AreInteger z v → AreInteger z w → v ≡ w

-- whether octets are those of a negative number: bit 8 of the first is one
abbrev pub is_negative : List ℕ → Bool
is_negative [] = false
is_negative (b ∷ w) = nat_le 0x80 b

-- the order of the octets of two numbers of one sign: fewer octets are nearer to 0, and as many are compared octet by octet
abbrev pub same_sign_order : Bool → List ℕ → List ℕ → Ordering
same_sign_order false v w = ordering_then (nat_cmp (length v) (length w)) (slice_cmp nat_cmp v w)
same_sign_order true v w = ordering_then (nat_cmp (length w) (length v)) (slice_cmp nat_cmp v w)

abbrev pub sign_order : Bool → Bool → List ℕ → List ℕ → Ordering
sign_order false false v w = same_sign_order false v w
sign_order false true v w = Greater
sign_order true false v w = Less
sign_order true true v w = same_sign_order true v w

abbrev pub integer_order : List ℕ → List ℕ → Ordering
integer_order v w = sign_order (is_negative v) (is_negative w) v w

-- the order of contents octets is the order of the integers
abbrev pub OrderOfIntegers : Type 0
OrderOfIntegers = (x y : ℤ) (v w : List ℕ) → AreOctets v → AreOctets w → AreInteger x v → AreInteger y w → integer_order v w ≡ int_cmp x y
