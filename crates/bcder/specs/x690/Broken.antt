-- What octets begin with if a rule of identifier octets or length octets is broken (ITU-T X.690, 8.1.2, 8.1.3).
use Rattle.std.specs.Prelude.{◌≡◌, ◌≢◌, ◌⊎◌, ℕ, ◌+◌, ◌%◌, ◌<◌, ◌≤◌, Bool, List, [], ◌∷◌, ◌++◌, length, slice_index}
use Rattle.bcder.specs.declared.mode.Mode.{Mode}
use Rattle.bcder.specs.declared.mode.Mode.TheVariants.{Ber}
use Rattle.bcder.specs.declared.length.Length.{Length}
use Rattle.bcder.specs.declared.length.Length.TheVariants.{Definite}
use Rattle.bcder.specs.x690.Identifier.{Tag, IsTag, identifier}
use Rattle.bcder.specs.x690.Length.{IsLengthForm, IsShortest, AreLengthOctets}

-- 8.1.2.4.1: bits 5 to 1 of the leading octet are all one, so the number of the tag is in the octets `behind` it
pub record LeadsNumber (w behind : List ℕ) : Type 0 where
  pub leading : ℕ
  pub ones : leading % 32 ≡ 31
  pub is : w ≡ leading ∷ behind

-- 8.1.2.4.2 a: bit 8 is set in each octet of the number but the last; here it is set in all that there are
pub record EndsInTag (w : List ℕ) : Type 0 where
  pub digits : List ℕ
  pub leads : LeadsNumber w digits
  pub more : (i : ℕ) → i < length digits → 128 ≤ slice_index digits i

-- the number is not in the fewest octets: it is up to 30, which has no octets of its own (8.1.2.2),
-- or bit 8 is the only bit set in its first octet (8.1.2.4.2 c)
pub record TagNotFewest (w : List ℕ) : Type 0 where
  pub first : ℕ
  pub others : List ℕ
  pub leads : LeadsNumber w (first ∷ others)
  pub few : (first < 31) ⊎ (first ≡ 0x80)

-- the number has more than three octets, the first of which isn't 80: it is 2 ^ 21 or more
pub record TagTooLarge (w : List ℕ) : Type 0 where
  pub first : ℕ
  pub second : ℕ
  pub third : ℕ
  pub others : List ℕ
  pub leads : LeadsNumber w (first ∷ second ∷ third ∷ others)
  pub more : (0x80 < first) × (0x80 ≤ second) × (0x80 ≤ third)

-- octets begin with the identifier octets of a tag, and P holds of the tag, of the form and of the octets after them
pub record HasTag (P : Tag → Bool → List ℕ → Type 0) (w : List ℕ) : Type 0 where
  pub tag : Tag
  pub form : Bool
  pub behind : List ℕ
  pub is_tag : IsTag tag
  pub is : w ≡ identifier tag form ++ behind
  pub holds : P tag form behind

-- no length octets are there, or fewer octets follow the first one than it says (8.1.3.5 a, b)
abbrev pub EndsInLength : List ℕ → Type 0
EndsInLength y = (y ≡ []) ⊎ (k : ℕ) × (digits : List ℕ) × (y ≡ (0x80 + k) ∷ digits) × (length digits < k)

-- the octets end before the identifier octets and length octets do
abbrev pub EndsInHeader : List ℕ → Type 0
EndsInHeader w = EndsInTag w ⊎ HasTag (λ t f y. EndsInLength y) w

-- the first length octet says that more than four follow
abbrev pub LengthTooLarge : List ℕ → Type 0
LengthTooLarge y = (k : ℕ) × (others : List ℕ) × (y ≡ (0x80 + k) ∷ others) × (4 < k)

-- 8.1.3.5 c: the first length octet is FF
abbrev pub LengthReserved : List ℕ → Type 0
LengthReserved y = (others : List ℕ) × (y ≡ 0xFF ∷ others)

-- 9.1, 10.1: the length is not in the fewest octets, which CER and DER require
pub record LengthNotFewest (mode : Mode) (y : List ℕ) : Type 0 where
  pub number : ℕ
  pub octets : List ℕ
  pub others : List ℕ
  pub strict : mode ≢ Ber
  pub form : IsLengthForm number octets
  pub longer : IsShortest number octets → ⊥
  pub is : y ≡ octets ++ others

-- octets begin with the octets of a length of which P holds
pub record HasLength (mode : Mode) (P : Length → Type 0) (y : List ℕ) : Type 0 where
  pub len : Length
  pub octets : List ℕ
  pub others : List ℕ
  pub tells : AreLengthOctets mode len octets
  pub is : y ≡ octets ++ others
  pub holds : P len

-- the length is of the definite form (8.1.3.3)
abbrev pub IsDefinite : Length → Type 0
IsDefinite len = (n : ℕ) × (len ≡ Definite n)
