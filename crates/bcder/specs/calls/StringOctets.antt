-- Octet strings as they are kept: in one piece, or cut into parts.
use Rattle.std.specs.Prelude.{◌≡◌, ℕ, Bool, true, false, List, [], ◌∷◌, ◌++◌, ⊤, ◌+◌, ◌/◌, length, take, drop}
use Rattle.std.specs.List.{concat}
use Rattle.std.proofs.Common.{zero, suc}
use Rattle.std.specs.Hash as fed
use Rattle.bcder.specs.declared.{mode.Mode.Mode}
use Rattle.bcder.specs.x690.Tree.{Tree, primitive, constructed}
use Rattle.bcder.specs.x690.Encoding.{AreEncodings}
use Rattle.bcder.specs.x690.OctetString.{segments_of, IsOctetString}
use Rattle.bcder.specs.calls.Captured.{Kept}

-- an octet string as it came: in one piece, or cut into parts, with the encodings that hold these
pub data StringOctets : Type 0 where
  whole : List ℕ → StringOctets
  cut : Kept → List (List ℕ) → StringOctets

-- the octets in one piece, if there are any
abbrev pub piece : List ℕ → List (List ℕ)
piece [] = []
piece (b ∷ w) = (b ∷ w) ∷ []

-- the parts of a string: of one in one piece that piece, if it isn't empty; of one that was cut all segments, empty ones too
abbrev pub parts : StringOctets → List (List ℕ)
parts (whole w) = piece w
parts (cut kept ps) = ps

-- the octets of a string
abbrev pub octets_of : StringOctets → List ℕ
octets_of (whole w) = w
octets_of (cut kept ps) = concat ps

-- octets that are still to come, and whether they are known to be in one piece
pub record OctetsLeft : Type 0 where
  pub octets : List ℕ
  pub is_whole : Bool

-- whether there is no part
abbrev pub is_no_part : List (List ℕ) → Bool
is_no_part [] = true
is_no_part (p ∷ ps) = false

-- whether the octets of a string are known to be in one piece: it came so, or has no segment
abbrev pub is_in_one_piece : StringOctets → Bool
is_in_one_piece (whole w) = true
is_in_one_piece (cut kept ps) = is_no_part ps

-- the string that a value means in a mode: in one piece, or cut into its segments, with encodings of the values that it is cut into
abbrev pub IsStringOf : Mode → Tree → StringOctets → Type 0
IsStringOf mode (primitive t contents) s = s ≡ whole contents
IsStringOf mode (constructed t ts) s =
    (kept : Kept) × (kept.mode ≡ mode) × AreEncodings mode ts kept.octets × (s ≡ cut kept (segments_of ts))

-- the value is an octet string in the mode, and s is what it means
abbrev pub MeansString : Mode → Tree → StringOctets → Type 0
MeansString mode t s = IsOctetString mode t × IsStringOf mode t s

-- the string was cut
abbrev pub IsCut : StringOctets → Type 0
IsCut (whole w) = ⊥
IsCut (cut kept ps) = ⊤

-- ---- hashing

-- the first n blocks of 64 octets, the last of which ends where the octets do
abbrev pub first_blocks : ℕ → List ℕ → List (List ℕ)
first_blocks zero w = []
first_blocks (suc n) w = take 64 w ∷ first_blocks n (drop 64 w)

-- octets in blocks of 64, the last of which may be shorter
abbrev pub blocks : List ℕ → List (List ℕ)
blocks w = first_blocks ((length w + 63) / 64) w

-- what a hasher gets: the number of octets, then the octets in blocks of 64
abbrev pub hashed : List ℕ → fed.HashWrites
hashed w = fed.usize (length w) ++ blocks w
