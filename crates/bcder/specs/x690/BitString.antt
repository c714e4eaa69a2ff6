-- Bit strings and their contents octets (ITU-T X.690, 8.6, 9.2, 11.2.1).
use Rattle.std.specs.Prelude.{◌≡◌, ℕ, ◌-◌, ◌*◌, ◌/◌, ◌^◌, ◌≤◌, ◌<◌, ⊤, Bool, List, [], ◌∷◌, length, take, ◌==◌}
use Rattle.std.specs.Int.{bit_at}
use Rattle.bcder.specs.x690.Identifier.{Tag, universal}
use Rattle.bcder.specs.declared.mode.Mode.{Mode}
use Rattle.bcder.specs.declared.mode.Mode.TheVariants.{Ber, Cer, Der}

-- the tag of BIT STRING (X.680, 8.4)
abbrev pub bit_string_tag : Tag
bit_string_tag = record { class = universal; number = 3 }

-- octets, and how many bits at the end of the last are unused
pub record Bits : Type 0 where
  pub unused : ℕ
  pub octets : List ℕ

-- 8.6.2.2, 8.6.2.3: up to seven bits are unused, and none if there are no octets;
-- X.690 has no longest bit string, this crate has one: a `usize` counts the bits
pub record IsBits (x : Bits) : Type 0 where
  pub few : x.unused ≤ 7
  pub none : x.octets ≡ [] → x.unused ≡ 0
  pub size : length x.octets < 2 ^ 61

-- bit i + 1 of an octet is one
abbrev pub is_one : ℕ → ℕ → Bool
is_one b i = bit_at b i == 1

-- 8.6.2.1: bits 8 to 1 of the first octet, then those of the octets after it
abbrev pub octet_bits : List ℕ → List Bool
octet_bits [] = []
octet_bits (b ∷ w) = is_one b 7 ∷ is_one b 6 ∷ is_one b 5 ∷ is_one b 4 ∷ is_one b 3 ∷ is_one b 2 ∷ is_one b 1 ∷ is_one b 0 ∷ octet_bits w

-- the bits of a bit string, the leading one first
abbrev pub bits : Bits → List Bool
bits x = take (8 * length x.octets - x.unused) (octet_bits x.octets)

-- 8.6.2: the initial octet, and the octets with the bits
abbrev pub contents_octets : Bits → List ℕ
contents_octets x = x.unused ∷ x.octets

-- 11.2.1: the octets with the unused bits of the last set to zero
abbrev pub cleared : ℕ → List ℕ → List ℕ
cleared unused [] = []
cleared unused (b ∷ []) = (b / 2 ^ unused * 2 ^ unused) ∷ []
cleared unused (b ∷ c ∷ w) = b ∷ cleared unused (c ∷ w)

-- the unused bits of the last octet are zero
abbrev pub AreCleared : ℕ → List ℕ → Type 0
AreCleared unused w = cleared unused w ≡ w

-- 9.2, 11.2.1: what CER and DER require of a bit string; in CER a primitive one has at most 1000 contents octets
abbrev pub MayHave : Mode → Bits → Type 0
MayHave Ber x = ⊤
MayHave Cer x = (length (contents_octets x) ≤ 1000) × AreCleared x.unused x.octets
MayHave Der x = AreCleared x.unused x.octets

-- octets are the contents octets of some bit string in a mode
abbrev pub BitShape : Mode → List ℕ → Type 0
BitShape mode [] = ⊥
BitShape mode (unused ∷ octets) =
    IsBits (record { unused = unused; octets = octets }) × MayHave mode (record { unused = unused; octets = octets })

-- octets are the contents octets of this bit string in a mode
abbrev pub IsBitString : Mode → List ℕ → Bits → Type 0
IsBitString mode w x = (contents_octets x ≡ w) × BitShape mode w

-- 11.2.1: a bit string as it is written in a mode
abbrev pub as_written : Mode → Bits → Bits
as_written Ber x = x
as_written mode x = record { unused = x.unused; octets = cleared x.unused x.octets }
