-- Which values may come behind which inside a constructed one (ITU-T X.690, 8.6.4, 8.7.3, 9.2, 9.3, 10.3, 11.6).
use Rattle.std.specs.Prelude.{◌≡◌, ◌≢◌, ℕ, ◌<◌, Bool, true, false, ⊤, List, [], ◌∷◌, length, slice_index}
use Rattle.std.specs.Prelude.{Option, Some, None, option_map, if◌then◌else◌}
use Rattle.bcder.specs.declared.mode.Mode.{Mode}
use Rattle.bcder.specs.declared.mode.Mode.TheVariants.{Ber, Cer}
use Rattle.bcder.specs.x690.Identifier.{Tag}
use Rattle.bcder.specs.x690.Tree.{Tree, primitive, constructed, Trees, no_trees, ◌∷ₜ◌, ◌+++◌}
use Rattle.encodings.specs.Pieces.{Piece, value, begins, ends}
use Rattle.bcder.specs.calls.Valued.{tag_of}
use Rattle.encodings.specs.Sets.{is_set, place, MayPrecede}
use Rattle.std.specs.List.{concat}
use Rattle.bcder.specs.x690.OctetString.{segments_of}
use Rattle.rules.specs.Characters.{HasCharacters}
use Rattle.rules.specs.Kinds.{is_bits, kind_of, IsString}
use Rattle.rules.specs.declared.kind.Kind.{Kind}

-- the last of values
abbrev pub last_of : Trees → Option Tree
last_of no_trees = None
last_of (t ∷ₜ no_trees) = Some t
last_of (t ∷ₜ (u ∷ₜ us)) = last_of (u ∷ₜ us)

-- two values or more
abbrev pub are_several : Trees → Bool
are_several no_trees = false
are_several (t ∷ₜ no_trees) = false
are_several (t ∷ₜ (u ∷ₜ us)) = true

-- ---- SET (9.3, 10.3, 11.6)

-- in CER and DER a value inside a SET is in order with the one before it, if there is one
abbrev pub InOrder : Mode → Tag → Option Tree → Tree → Type 0
InOrder mode t None v = ⊤
InOrder mode t (Some u) v = mode ≢ Ber → is_set t ≡ true → MayPrecede mode u v

-- ---- strings (8.6.4, 8.7.3, 8.23.3, 9.2)

-- the number of contents octets of a primitive value
abbrev pub size_of : Tree → Option ℕ
size_of (primitive t c) = Some (length c)
size_of (constructed t ts) = None

-- the first contents octet of the last primitive value that is the value or is in it: of a BIT STRING the number of unused bits (8.6.2.2)
abbrev mutual
  pub unused_of : Tree → ℕ
  unused_of (primitive t c) = slice_index c 0
  unused_of (constructed t ts) = unused_of_last ts

  pub unused_of_last : Trees → ℕ
  unused_of_last no_trees = 0
  unused_of_last (t ∷ₜ no_trees) = unused_of t
  unused_of_last (t ∷ₜ (u ∷ₜ us)) = unused_of_last (u ∷ₜ us)

-- what counts of a segment; the place of a universal tag is its number
pub record Outline : Type 0 where
  pub place : ℕ
  pub size : Option ℕ
  pub unused : ℕ

abbrev pub outline : Tree → Outline
outline u = record { place = place (tag_of u); size = size_of u; unused = unused_of u }

-- the tag of the segments of a string: BIT STRING (8.6.4), or OCTET STRING (8.7.3.2, 8.23.3)
abbrev pub segment_place : Kind → ℕ
segment_place kind = if is_bits kind then 3 else 4

abbrev pub HasSegmentTag : Kind → Outline → Type 0
HasSegmentTag kind v = IsString kind → v.place ≡ segment_place kind

-- 8.6.4: no bits of a segment are unused that isn't the last
abbrev pub IsBehindWhole : Kind → Option Outline → Type 0
IsBehindWhole kind None = ⊤
IsBehindWhole kind (Some u) = is_bits kind ≡ true → u.unused ≡ 0

-- 9.2: in CER a segment is primitive, and has bits or octets; the one before it has 1000 contents octets
abbrev pub IsSegmentSize : Kind → Option ℕ → Type 0
IsSegmentSize kind None = ⊥
IsSegmentSize kind (Some n) = (if is_bits kind then 1 else 0) < n

abbrev pub IsBehindFull : Option Outline → Type 0
IsBehindFull None = ⊤
IsBehindFull (Some u) = u.size ≡ Some 1000

abbrev pub IsCut : Mode → Kind → Option Outline → Outline → Type 0
IsCut mode kind last v = mode ≡ Cer → IsString kind → IsSegmentSize kind v.size × IsBehindFull last

-- 9.2: in CER a string of at most 1000 contents octets isn't cut
abbrev pub MayEnd : Mode → Kind → Bool → Type 0
MayEnd mode kind several = mode ≡ Cer → IsString kind → several ≡ true

-- the characters of a constructed string are those of its segments
abbrev pub HasText : Mode → Tag → Trees → Type 0
HasText mode t ts = HasCharacters mode (kind_of t) (concat (segments_of ts))

-- a constructed value with this tag may end behind these
abbrev pub MayEndBehind : Mode → Tag → Trees → Type 0
MayEndBehind mode t ts = MayEnd mode (kind_of t) (are_several ts) × HasText mode t ts

-- ---- all of it

-- a value may come behind the last one inside a value with this tag
pub record MayCome (mode : Mode) (t : Tag) (last : Option Tree) (v : Tree) : Type 0 where
  pub order : InOrder mode t last v
  pub tag : HasSegmentTag (kind_of t) (outline v)
  pub unused : IsBehindWhole (kind_of t) (option_map outline last)
  pub cut : IsCut mode (kind_of t) (option_map outline last) (outline v)

-- each value inside a value with this tag may come behind the one before it, and the first behind `last`
abbrev pub MayComeEach : Mode → Tag → Option Tree → Trees → Type 0
MayComeEach mode t last no_trees = ⊤
MayComeEach mode t last (v ∷ₜ vs) = MayCome mode t last v × MayComeEach mode t (Some v) vs

abbrev mutual
  -- each value inside the value may come behind the one before it, and the last may be the last
  pub IsInPlace : Mode → Tree → Type 0
  IsInPlace mode (primitive t c) = ⊤
  IsInPlace mode (constructed t ts) = AreInPlace mode ts × MayComeEach mode t None ts × MayEndBehind mode t ts

  pub AreInPlace : Mode → Trees → Type 0
  AreInPlace mode no_trees = ⊤
  AreInPlace mode (t ∷ₜ ts) = IsInPlace mode t × AreInPlace mode ts

-- ---- the same of pieces

-- a value that is open: its tag, and the values that were passed in it
pub record Frame : Type 0 where
  pub tag : Tag
  pub trees : Trees

-- a value was passed inside the innermost of open ones
abbrev pub added : Tree → List Frame → List Frame
added u [] = []
added u (f ∷ fs) = record { tag = f.tag; trees = f.trees +++ (u ∷ₜ no_trees) } ∷ fs

-- a piece was passed
abbrev pub step : List Frame → Piece → List Frame
step fs (value t c) = added (primitive t c) fs
step fs (begins t) = record { tag = t; trees = no_trees } ∷ fs
step [] ends = []
step (f ∷ fs) ends = added (constructed f.tag f.trees) fs

-- a value may come inside the innermost of open ones; outside of all any may
abbrev pub MayComeIn : Mode → List Frame → Tree → Type 0
MayComeIn mode [] u = ⊤
MayComeIn mode (f ∷ fs) u = MayCome mode f.tag (last_of f.trees) u

-- the value that a piece completes may come
abbrev pub IsPlaced : Mode → List Frame → Piece → Type 0
IsPlaced mode fs (value t c) = MayComeIn mode fs (primitive t c)
IsPlaced mode fs (begins t) = ⊤
IsPlaced mode [] ends = ⊤
IsPlaced mode (f ∷ fs) ends = MayEndBehind mode f.tag f.trees × MayComeIn mode fs (constructed f.tag f.trees)

abbrev pub ArePlaced : Mode → List Frame → List Piece → Type 0
ArePlaced mode fs [] = ⊤
ArePlaced mode fs (p ∷ ps) = IsPlaced mode fs p × ArePlaced mode (step fs p) ps

-- the values that are open behind pieces
abbrev pub open_behind : List Frame → List Piece → List Frame
open_behind fs [] = fs
open_behind fs (p ∷ ps) = open_behind (step fs p) ps
