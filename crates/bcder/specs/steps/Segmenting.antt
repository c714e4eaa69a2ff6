-- What private steps return that write octets in segments.
use Rattle.std.specs.Prelude.{◌≡◌, ℕ, ◌+◌, ◌-◌, ◌*◌, ◌<◌, ◌⊎◌, true, false, List, [], ◌∷◌, ◌++◌}
use Rattle.std.specs.Prelude.{length, take, drop, Option, Result, Ok, Err}
use Rattle.std.specs.Borrow.{MutBor}
use Rattle.std.specs.Io.KnownBytes.{Appends}
use denote.Triple.Both.{Both}
use Rattle.bcder.specs.declared.encode.error.EncodeError.{EncodeError}
use Rattle.bcder.specs.declared.encode.error.EncodeError.TheVariants.{EndOfValueTag, SizeOverflow}
use Rattle.bcder.specs.declared.encode.error.WriteError.{WriteError}
use Rattle.bcder.specs.declared.encode.slot.Failed.{Failed}
use Rattle.bcder.specs.declared.mode.Mode.TheVariants.{Cer}
use Rattle.bcder.specs.declared.string.octet.write.Progress.{Progress}
use Rattle.bcder.specs.x690.Identifier.{Tag, IsValueTag, end_of_contents}
use Rattle.bcder.specs.x690.Octets.{definite_length, definite, enclosed_size}
use Rattle.bcder.specs.x690.OctetString.{octet_string_tag}
use Rattle.bcder.specs.calls.Meaning.{Encoded, Meaning, fits_enclosed}
use Rattle.bcder.specs.calls.Encoders.{WroteOf}
use Rattle.bcder.specs.calls.StringMeaning.{full_segments, segments_in_cer}

-- ---- sizes

-- the number of octets of the segments of n octets: each full one has four more than its own, and the last one a tag and its length octets
abbrev pub segments_size : ℕ → ℕ
segments_size n = n + (4 * full_segments n + 1 + length (definite_length (n - 1000 * full_segments n)))

-- r is the size of a value that is cut into the segments of n octets, or says why there is none
abbrev pub CutSize : Tag → ℕ → Result ℕ EncodeError → Type 0
CutSize t n (Ok size) = IsValueTag t × (size ≡ enclosed_size Cer t (segments_size n)) × (fits_enclosed Cer t (segments_size n) ≡ true)
CutSize t n (Err e) =
    ((t ≡ end_of_contents) × (e ≡ EndOfValueTag))
    ⊎ (IsValueTag t × (fits_enclosed Cer t (segments_size n) ≡ false) × (e ≡ SizeOverflow))

-- ---- octets

-- what is still to be written if no segment was begun
abbrev pub unwritten : List ℕ → List ℕ
unwritten [] = []
unwritten (b ∷ w) = (segments_in_cer (b ∷ w)).octets

-- what is still to be written of octets whose beginning belongs to a segment that was begun
abbrev pub to_write : Progress → List ℕ → List ℕ
to_write p w = take p.left w ++ unwritten (drop p.left w)

abbrev pub IsProgress : Progress → List ℕ → Type 0
IsProgress p w = p.left + p.behind ≡ length w

-- u was to come at p; what was written leaves v to come at q
pub record Advanced (p : Progress) (u : List ℕ) (q : Progress) (v : List ℕ) (old new : Option (List ℕ)) : Type 0 where
  pub written : List ℕ
  pub appends : Appends old new written
  pub is : to_write p u ≡ written ++ to_write q v
  pub progress : IsProgress q v

-- a part was written, whatever is to come after it
abbrev pub PartWritten : Progress → List ℕ → WriteError → Option (List ℕ) → Option (List ℕ) → Result Progress Failed → Type 0
PartWritten p part why old new (Ok q) = (v : List ℕ) → IsProgress p (part ++ v) → Advanced p (part ++ v) q v old new
PartWritten p part why old new (Err f) = (v : List ℕ) → IsProgress p (part ++ v) → WroteOf ⊥ (to_write p (part ++ v)) old new (Err why)

-- a segment was begun, if none was
abbrev pub SegmentBegun : Progress → WriteError → Option (List ℕ) → Option (List ℕ) → Result Progress Failed → Type 0
SegmentBegun p why old new (Ok q) =
    (0 < q.left) × (q.left + q.behind ≡ p.left + p.behind) × ((v : List ℕ) → IsProgress p v → Advanced p v q v old new)
SegmentBegun p why old new (Err f) = (v : List ℕ) → IsProgress p v → WroteOf ⊥ (to_write p v) old new (Err why)

-- the target, at entry and at exit
module _ {W : Type 0} (contents : W → Option (List ℕ)) (target : Both (MutBor W) (MutBor W)) where
  abbrev pub WritesPart : Progress → List ℕ → WriteError → Result Progress Failed → Type 0
  WritesPart p part why r = PartWritten p part why (contents target.entry.now) (contents target.exit.now) r

  abbrev pub BeginsSegment : Progress → WriteError → Result Progress Failed → Type 0
  BeginsSegment p why r = SegmentBegun p why (contents target.entry.now) (contents target.exit.now) r

  -- the octets of what M says were written as a primitive value
  abbrev pub WritesInside : (Meaning → Type 0) → Type 0 → Result (Unit {0}) WriteError → Type 0
  WritesInside M lacks r = (e : Encoded) → M (Ok e)
      → WroteOf lacks (definite octet_string_tag false e.octets) (contents target.entry.now) (contents target.exit.now) r
