-- Items whose strings are cut into segments again, as CER wants them (ITU-T X.690, 9.2).
use Rattle.std.specs.Prelude.{◌≡◌, ℕ, zero, suc, ◌+◌, ◌^◌, ◌<◌, ⊤, false, nat_lt, if◌then◌else◌, List, [], ◌∷◌, ◌++◌, length, take, drop}
use Rattle.bcder.specs.declared.mode.Mode.TheVariants.{Cer}
use Rattle.bcder.specs.x690.Identifier.{Tag}
use Rattle.bcder.specs.x690.OctetString.{octet_string_tag}
use Rattle.bcder.specs.x690.Octets.{definite}
use Rattle.bcder.specs.x690.Tree.{primitive, Trees, no_trees, ◌∷ₜ◌}
use Rattle.encodings.specs.declared.convert.Kind.{Kind}
use Rattle.encodings.specs.declared.convert.Kind.TheVariants.{Boolean, Bits, Text, Other}
use Rattle.encodings.specs.Buffers.{IsStored}
use Rattle.encodings.specs.Conversion.{kind_of}
use Rattle.encodings.specs.Pieces.{Made, made_value, made_beginning, made_end, made_string, made_part, made_string_end}
use Rattle.encodings.specs.Pieces.{Frames, in_front, headed, ended, string_headed, string_ended}
use Rattle.encodings.specs.Pieces.{AreThere, Fit, written, all_octets, all_spelled}
use Rattle.encodings.specs.Status.{no_memory, not_converted}
use Rattle.bcder.specs.declared.mode.Mode.{Mode}

-- n segments at most, of 1000 octets each but the last
unfoldable pub cut_from : ℕ → List ℕ → Trees
cut_from zero s = no_trees
cut_from (suc n) [] = no_trees
cut_from (suc n) (b ∷ s) = primitive octet_string_tag (take 1000 (b ∷ s)) ∷ₜ cut_from n (drop 1000 (b ∷ s))

-- the segments of octets
abbrev pub cut : List ℕ → Trees
cut s = cut_from (length s) s

-- the octets s of a string are still to be written before f: with no open segment, or in one that has room for k more
abbrev pub closed_left : List ℕ → Frames → Frames
closed_left s f = in_front (all_spelled Cer (cut s)) f

abbrev pub open_left : ℕ → List ℕ → Frames → Frames
open_left k s f = record { inner = take k s; outer = (all_spelled Cer (cut (drop k s)) ++ f.inner) ∷ f.outer }

unfoldable pub body_left : ℕ → List ℕ → Frames → Frames
body_left zero s f = closed_left s f
body_left (suc k) s f = open_left (suc k) s f

-- how many octets the parts in front have
abbrev pub total_of : List Made → ℕ
total_of [] = 0
total_of (made_value t c ∷ qs) = 0
total_of (made_beginning t ∷ qs) = 0
total_of (made_end ∷ qs) = 0
total_of (made_string t ∷ qs) = 0
total_of (made_part c ∷ qs) = length c + total_of qs
total_of (made_string_end ∷ qs) = 0

abbrev pub cut_value : Tag → List ℕ → Frames → Frames
cut_value t c f = headed Cer t (body_left 0 c (ended Cer f))

abbrev pub value_written : Kind → Tag → List ℕ → Frames → Frames
value_written Text t c f = if nat_lt 1000 (length c) then cut_value t c f else in_front (definite t false c) f
value_written Boolean t c f = in_front (definite t false c) f
value_written Bits t c f = in_front (definite t false c) f
value_written Other t c f = in_front (definite t false c) f

unfoldable mutual
  -- what is to be written of items
  pub cut_written : List Made → Frames
  cut_written [] = record { inner = []; outer = [] }
  cut_written (made_value t c ∷ qs) = value_written (kind_of t) t c (cut_written qs)
  cut_written (made_beginning t ∷ qs) = headed Cer t (cut_written qs)
  cut_written (made_end ∷ qs) = ended Cer (cut_written qs)
  cut_written (made_string t ∷ qs) =
      if nat_lt 1000 (total_of qs) then headed Cer t (inside_cut 0 qs []) else string_headed t (cut_written qs)
  cut_written (made_part c ∷ qs) = in_front c (cut_written qs)
  cut_written (made_string_end ∷ qs) = string_ended (cut_written qs)

  -- what is written inside a string that is cut, of which the octets s are to be written before
  pub inside_cut : ℕ → List Made → List ℕ → Frames
  inside_cut k [] s = body_left k s (ended Cer (record { inner = []; outer = [] }))
  inside_cut k (made_value t c ∷ qs) s = body_left k s (ended Cer (cut_written qs))
  inside_cut k (made_beginning t ∷ qs) s = body_left k s (ended Cer (cut_written qs))
  inside_cut k (made_end ∷ qs) s = body_left k s (ended Cer (cut_written qs))
  inside_cut k (made_string t ∷ qs) s = body_left k s (ended Cer (cut_written qs))
  inside_cut k (made_part c ∷ qs) s = inside_cut k qs (s ++ c)
  inside_cut k (made_string_end ∷ qs) s = body_left k s (ended Cer (cut_written qs))

-- what is written outside strings that are cut (0), or in one whose open segment has room for so many octets and one
abbrev pub state_written : ℕ → List Made → Frames
state_written zero qs = cut_written qs
state_written (suc k) qs = inside_cut k qs []

-- all items that stay as they are can be written
unfoldable pub CutFit : List Made → Type 0
CutFit [] = ⊤
CutFit (made_value t c ∷ qs) = (length c < 2 ^ 32) × CutFit qs
CutFit (made_beginning t ∷ qs) = AreThere (cut_written qs).outer × CutFit qs
CutFit (made_end ∷ qs) = CutFit qs
CutFit (made_string t ∷ qs) =
    (nat_lt 1000 (total_of qs) ≡ false → (length (cut_written qs).inner < 2 ^ 32) × AreThere (cut_written qs).outer) × CutFit qs
CutFit (made_part c ∷ qs) = CutFit qs
CutFit (made_string_end ∷ qs) = CutFit qs

-- items were added to others: before such of which f is written, g is written of them
pub record Adds (old new : List Made) (f g : Frames) : Type 0 where
  pub added : List Made
  pub is : new ≡ old ++ added
  pub same : (z : List Made) → written Cer z ≡ f → written Cer (added ++ z) ≡ g
  pub fit : (z : List Made) → written Cer z ≡ f → Fit Cer z → Fit Cer (added ++ z)

-- octets were added to a string, whose open segment had room for k more, and has room for m now
abbrev pub Feeds : ℕ → List ℕ → ℕ → List Made → List Made → Type 0
Feeds k c m old new = (s : List ℕ) (f : Frames) → Adds old new (body_left m s f) (body_left k (c ++ s) f)

-- a segment is open for octets that follow
abbrev pub Opens : ℕ → ℕ → List Made → List Made → Type 0
Opens k m old new = (s : List ℕ) (f : Frames) → 0 < length s → Adds old new (open_left m s f) (body_left k s f)

-- octets were added in an open segment
abbrev pub Fills : ℕ → List ℕ → ℕ → List Made → List Made → Type 0
Fills k c m old new = (s : List ℕ) (f : Frames) → Adds old new (body_left m s f) (open_left k (c ++ s) f)

-- so were the first of them, w of which are left
pub record FeedsSome (k : ℕ) (v : List ℕ) (m : ℕ) (w : List ℕ) (old new : List Made) : Type 0 where
  pub front : List ℕ
  pub is : v ≡ front ++ w
  pub some : 0 < length front
  pub feeds : Feeds k front m old new

-- what is written of items was stored; or they can't be written; or memory ran out
pub data StoresWritten (mode : Mode) (qs : List Made) (status : ℕ) (old new : List ℕ) (before n : ℕ) : Type 0 where
  stores : Fit mode qs → IsStored (all_octets (written mode qs)) status old new n → StoresWritten mode qs status old new before n
  fits_not : status ≡ not_converted → (Fit mode qs → ⊥) → new ≡ old → n ≡ before → StoresWritten mode qs status old new before n
  lacks : status ≡ no_memory → n ≡ before → StoresWritten mode qs status old new before n

-- what is written of items whose strings are cut was stored; or memory ran out
pub data StoresCut (qs : List Made) (status : ℕ) (old new : List ℕ) (before n : ℕ) : Type 0 where
  stores_cut : IsStored (all_octets (cut_written qs)) status old new n → StoresCut qs status old new before n
  lacks_cut : status ≡ no_memory → n ≡ before → StoresCut qs status old new before n
