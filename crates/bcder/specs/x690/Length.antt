-- Length octets and end-of-contents octets (ITU-T X.690, 8.1.3, 8.1.5, 9.1, 10.1).
use Rattle.std.specs.Prelude.{◌≡◌, ◌⊎◌, ℕ, ◌+◌, ◌*◌, ◌^◌, ◌<◌, ◌≤◌, List, [], ◌∷◌, length}
use Rattle.bcder.specs.declared.mode.Mode.{Mode}
use Rattle.bcder.specs.declared.mode.Mode.TheVariants.{Ber, Cer, Der}
use Rattle.bcder.specs.declared.length.Length.{Length}
use Rattle.bcder.specs.declared.length.Length.TheVariants.{Definite, Indefinite}
use Rattle.bcder.specs.x690.Identifier.{AreOctets}

-- the unsigned binary integer that octets are, the most significant first
abbrev pub big_endian : List ℕ → ℕ
big_endian [] = 0
big_endian (b ∷ w) = b * 256 ^ length w + big_endian w

-- 8.1.3.5: an octet with bit 8 set and the count of the octets after it, which are the number;
-- X.690 has up to 126 of them, this crate up to four
pub record IsLongForm (n : ℕ) (w : List ℕ) : Type 0 where
  pub digits : List ℕ
  pub is : w ≡ (0x80 + length digits) ∷ digits
  pub some : 1 ≤ length digits
  pub limit : length digits ≤ 4
  pub octets : AreOctets digits
  pub number : big_endian digits ≡ n

-- 8.1.3.4: one octet, with bit 8 clear
abbrev pub IsShortForm : ℕ → List ℕ → Type 0
IsShortForm n w = (n < 128) × (w ≡ n ∷ [])

-- 8.1.3.3: the short form or the long form
abbrev pub IsLengthForm : ℕ → List ℕ → Type 0
IsLengthForm n w = IsShortForm n w ⊎ IsLongForm n w

-- the fewest octets necessary: no form of the number has fewer
abbrev pub IsShortest : ℕ → List ℕ → Type 0
IsShortest n w = (v : List ℕ) → IsLengthForm n v → length w ≤ length v

-- w are definite length octets for n: in BER of either form, at the sender's choice (8.1.3.5, note 2);
-- in CER and DER the shortest (9.1, 10.1)
abbrev pub IsDefiniteLength : Mode → ℕ → List ℕ → Type 0
IsDefiniteLength Ber n w = IsLengthForm n w
IsDefiniteLength Cer n w = IsLengthForm n w × IsShortest n w
IsDefiniteLength Der n w = IsLengthForm n w × IsShortest n w

-- w are the octets of a length; the indefinite form is the octet 80 (8.1.3.6)
abbrev pub AreLengthOctets : Mode → Length → List ℕ → Type 0
AreLengthOctets mode (Definite n) w = IsDefiniteLength mode n w
AreLengthOctets mode Indefinite w = w ≡ 0x80 ∷ []

-- 8.1.5: two zero octets, as the encoding of a value of tag 0 without contents;
-- BER takes a longer form of the length 0 too, as upstream does
pub record IsEndOfContents (mode : Mode) (w : List ℕ) : Type 0 where
  pub zero_length : List ℕ
  pub is : w ≡ 0x00 ∷ zero_length
  pub is_length : IsDefiniteLength mode 0 zero_length
