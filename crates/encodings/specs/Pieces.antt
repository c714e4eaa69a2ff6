-- Values as a list of pieces: primitive values, and the beginnings and ends of constructed ones.
use Rattle.std.specs.List.{concat}
use Rattle.std.specs.Prelude.{◌≡◌, ℕ, ◌+◌, ◌-◌, ◌*◌, ◌^◌, ◌<◌, ◌≤◌, ⊤, zero, suc, Bool, true, false, List, [], ◌∷◌, ◌++◌, length}
use Rattle.std.specs.Prelude.{take, map, reverse, Option, Some, None, option_map, option_and_then}
use Rattle.bcder.specs.declared.mode.Mode.{Mode}
use Rattle.bcder.specs.declared.mode.Mode.TheVariants.{Ber, Cer, Der}
use Rattle.bcder.specs.x690.Identifier.{Tag}
use Rattle.bcder.specs.x690.Encoding.{IsHeader, AreEncodings}
use Rattle.bcder.specs.x690.OctetString.{octet_string_tag}
use Rattle.bcder.specs.x690.Octets.{constructed_length, header, definite, closing, enclosed}
use Rattle.bcder.specs.x690.Tree.{Tree, primitive, constructed, Trees, no_trees, ◌∷ₜ◌}
use Rattle.bcder.specs.calls.Content.{length_of}
use Rattle.bcder.specs.steps.Reading.{read_list}
use Rattle.encodings.specs.declared.convert.Kind.{Kind}
use Rattle.encodings.specs.declared.convert.Kind.TheVariants.{Boolean, Bits, Text, Other}
use Rattle.encodings.specs.declared.convert.Item.{Item}
use Rattle.encodings.specs.declared.convert.Sort.{Sort}
use Rattle.encodings.specs.declared.convert.Sort.TheVariants.{Value, Begin, End, Whole, Part, WholeEnd}
use Rattle.encodings.specs.Conversion.{kind_of, ContentsBecome, Become}
use Rattle.encodings.specs.Open.{Open, to_come}

pub data Piece : Type 0 where
  value : Tag → List ℕ → Piece
  begins : Tag → Piece
  ends : Piece

-- what is written of an item in memory; the octets of a string that was cut are parts, between its beginning and its end
pub data Made : Type 0 where
  made_value : Tag → List ℕ → Made
  made_beginning : Tag → Made
  made_end : Made
  made_string : Tag → Made
  made_part : List ℕ → Made
  made_string_end : Made

abbrev pub made_as : Sort → Tag → List ℕ → Made
made_as Value t c = made_value t c
made_as Begin t c = made_beginning t
made_as End t c = made_end
made_as Whole t c = made_string t
made_as Part t c = made_part c
made_as WholeEnd t c = made_string_end

abbrev pub made_of : Item → Made
made_of i = made_as i.sort i.tag i.contents.now

abbrev pub all_made : List Item → List Made
all_made items = map made_of items

-- the piece that a header and the octets behind it are
abbrev pub piece_read : Tag → Bool → List ℕ → Piece
piece_read t false c = value t c
piece_read t true c = begins t

abbrev mutual
  pub pieces : Tree → List Piece
  pieces (primitive t c) = value t c ∷ []
  pieces (constructed t ts) = begins t ∷ (pieces_of ts ++ ends ∷ [])

  pub pieces_of : Trees → List Piece
  pieces_of no_trees = []
  pieces_of (t ∷ₜ ts) = pieces t ++ pieces_of ts

-- ---- reading them

-- the pieces still to come, inside open values, if the octets to come are the rest of values
unfoldable pub pieces_left : Mode → List Open → List ℕ → Option (List Piece)
pieces_left mode [] x = option_map (λ ts. pieces_of ts.0) (read_list mode false x)
pieces_left mode (Some behind ∷ os) x =
    option_and_then (λ ts. option_map (λ ps. pieces_of ts.0 ++ ends ∷ ps) (pieces_left mode os behind)) (read_list mode false x)
pieces_left mode (None ∷ os) x =
    option_and_then (λ ts. option_map (λ ps. pieces_of ts.0 ++ ends ∷ ps) (pieces_left mode os ts.1)) (read_list mode true x)

-- octets begin with the header of a value and these contents octets, before others; or with a header of the indefinite form, before these
pub data BeginsPiece (mode : Mode) (x : List ℕ) (t : Tag) (form : Bool) (contents : List ℕ) (behind : Open) : Type 0 where
  of_definite : (h b : List ℕ) → IsHeader mode t form (length_of (Some (length contents))) h → behind ≡ Some b → x ≡ h ++ (contents ++ b)
      → BeginsPiece mode x t form contents behind
  of_indefinite : (h : List ℕ) → IsHeader mode t form (length_of None) h → behind ≡ None → x ≡ h ++ contents
      → BeginsPiece mode x t form contents behind

-- pieces before others
abbrev pub before_all : List Piece → Option (List Piece) → Option (List Piece)
before_all ps r = option_map (λ qs. ps ++ qs) r

-- ---- what they become in CER or DER

-- the beginning of a constructed value with a tag of this kind
abbrev pub BeginningBecomes : Kind → Tag → Made → ℕ → Type 0
BeginningBecomes Boolean t q m = ⊥
BeginningBecomes Bits t q m = ⊥
BeginningBecomes Text t q m = (q ≡ made_string t) × (m ≡ 1)
BeginningBecomes Other t q m = (q ≡ made_beginning t) × (m ≡ 0)

-- a piece inside n open values of a string that is cut, which is one of them, becomes q, and m of these are open behind it
abbrev pub PieceBecomes : Mode → ℕ → Piece → Made → ℕ → Type 0
PieceBecomes mode zero (value t c) q m = (d : List ℕ) × ContentsBecome mode (kind_of t) c d × (q ≡ made_value t d) × (m ≡ 0)
PieceBecomes mode zero (begins t) q m = BeginningBecomes (kind_of t) t q m
PieceBecomes mode zero ends q m = (q ≡ made_end) × (m ≡ 0)
PieceBecomes mode (suc n) (value t c) q m = (t ≡ octet_string_tag) × (q ≡ made_part c) × (m ≡ suc n)
PieceBecomes mode (suc n) (begins t) q m = (t ≡ octet_string_tag) × (q ≡ made_part []) × (m ≡ suc (suc n))
PieceBecomes mode (suc zero) ends q m = (q ≡ made_string_end) × (m ≡ 0)
PieceBecomes mode (suc (suc n)) ends q m = (q ≡ made_part []) × (m ≡ suc n)

abbrev pub PiecesBecome : Mode → ℕ → List Piece → List Made → ℕ → Type 0
PiecesBecome mode n [] [] m = m ≡ n
PiecesBecome mode n [] (q ∷ qs) m = ⊥
PiecesBecome mode n (p ∷ ps) [] m = ⊥
PiecesBecome mode n (p ∷ ps) (q ∷ qs) m = (k : ℕ) × PieceBecomes mode n p q k × PiecesBecome mode k ps qs m

-- from the octets x inside the open values os to y inside ps a piece was passed, which becomes q; n and then m are in a string that is cut
pub record PassesOne (from to : Mode) (n : ℕ) (os : List Open) (x : List ℕ) (m : ℕ) (ps : List Open) (y : List ℕ) (q : Made) : Type 0 where
  pub piece : Piece
  pub same : pieces_left from os x ≡ before_all (piece ∷ []) (pieces_left from ps y)
  pub becomes : PieceBecomes to n piece q m
  pub smaller : length (to_come ps y) * 2 + length ps < length (to_come os x) * 2 + length os

-- the octets to come aren't the rest of values; or a piece is next that becomes nothing
pub data PassesNone (from to : Mode) (n : ℕ) (os : List Open) (x : List ℕ) : Type 0 where
  no_rest : pieces_left from os x ≡ None → PassesNone from to n os x
  one_is_nothing : (p : Piece) (r : Option (List Piece)) → pieces_left from os x ≡ before_all (p ∷ []) r
      → ((q : Made) (m : ℕ) → PieceBecomes to n p q m → ⊥) → PassesNone from to n os x

-- the parts of a string that is cut
abbrev mutual
  pub parts : Tree → List Made
  parts (primitive t c) = made_part c ∷ []
  parts (constructed t ts) = made_part [] ∷ (parts_of ts ++ made_part [] ∷ [])

  pub parts_of : Trees → List Made
  parts_of no_trees = []
  parts_of (t ∷ₜ ts) = parts t ++ parts_of ts

-- what is written of a value that becomes another
abbrev mutual
  pub makes : Tree → Tree → List Made
  makes (primitive t c) (primitive u d) = made_value u d ∷ []
  makes (primitive t c) (constructed u us) = []
  makes (constructed t ts) (primitive u d) = made_string u ∷ (parts_of ts ++ made_string_end ∷ [])
  makes (constructed t ts) (constructed u us) = made_beginning u ∷ (all_make ts us ++ made_end ∷ [])

  pub all_make : Trees → Trees → List Made
  all_make no_trees no_trees = []
  all_make no_trees (u ∷ₜ us) = []
  all_make (t ∷ₜ ts) no_trees = []
  all_make (t ∷ₜ ts) (u ∷ₜ us) = makes t u ++ all_make ts us

-- octets are values that become others, and this is written of them
pub record ReadsAs (from to : Mode) (w : List ℕ) (qs : List Made) : Type 0 where
  pub read : Trees
  pub encode : AreEncodings from read w
  pub trees : Trees
  pub become : Become to read trees
  pub are : qs ≡ all_make read trees

abbrev pub ReadsAsNothing : Mode → Mode → List ℕ → Type 0
ReadsAsNothing from to w = (ts us : Trees) → AreEncodings from ts w → Become to ts us → ⊥

-- ---- writing them, the last first

-- the octets behind the last beginning for which no end was met, and those around it, the next first
pub record Frames : Type 0 where
  pub inner : List ℕ
  pub outer : List (List ℕ)

abbrev pub in_front : List ℕ → Frames → Frames
in_front w f = record { inner = w ++ f.inner; outer = f.outer }

-- a header, contents octets, and what follows the value
abbrev pub header_before : Mode → Tag → List ℕ → List (List ℕ) → List ℕ
header_before mode t a [] = a
header_before mode t a (b ∷ fs) = header t true (constructed_length mode (length a)) ++ (a ++ b)

abbrev pub behind_first : List (List ℕ) → List (List ℕ)
behind_first [] = []
behind_first (b ∷ fs) = fs

-- the innermost frame is the contents octets of a value, which ends in the next
abbrev pub headed : Mode → Tag → Frames → Frames
headed mode t f = record { inner = header_before mode t f.inner f.outer; outer = behind_first f.outer }

-- a value ends
abbrev pub ended : Mode → Frames → Frames
ended mode f = record { inner = []; outer = (closing mode ++ f.inner) ∷ f.outer }

-- the octets a of the innermost frame become the contents octets of a primitive string
abbrev pub string_before : Tag → List ℕ → List (List ℕ) → List ℕ
string_before t a [] = a
string_before t a (b ∷ fs) = header t false (length_of (Some (length a))) ++ (a ++ b)

abbrev pub string_headed : Tag → Frames → Frames
string_headed t f = record { inner = string_before t f.inner f.outer; outer = behind_first f.outer }

abbrev pub string_ended : Frames → Frames
string_ended f = record { inner = []; outer = f.inner ∷ f.outer }

-- an item in front of what is written
abbrev pub with_made : Mode → Made → Frames → Frames
with_made mode (made_value t c) f = in_front (definite t false c) f
with_made mode (made_beginning t) f = headed mode t f
with_made mode made_end f = ended mode f
with_made mode (made_string t) f = string_headed t f
with_made mode (made_part c) f = in_front c f
with_made mode made_string_end f = string_ended f

abbrev pub written : Mode → List Made → Frames
written mode [] = record { inner = []; outer = [] }
written mode (q ∷ qs) = with_made mode q (written mode qs)

-- all octets that are written
abbrev pub all_octets : Frames → List ℕ
all_octets f = f.inner ++ concat f.outer

-- whether a length has room in four octets, where it is definite
abbrev pub LengthFits : Mode → ℕ → Type 0
LengthFits Ber n = n < 2 ^ 32
LengthFits Cer n = ⊤
LengthFits Der n = n < 2 ^ 32

abbrev pub AreThere : List (List ℕ) → Type 0
AreThere [] = ⊥
AreThere (f ∷ fs) = ⊤

-- an item can be written in front of others: its length has room, and a beginning has an end
abbrev pub FitsBefore : Mode → Made → Frames → Type 0
FitsBefore mode (made_value t c) f = length c < 2 ^ 32
FitsBefore mode (made_beginning t) f = LengthFits mode (length f.inner) × AreThere f.outer
FitsBefore mode made_end f = ⊤
FitsBefore mode (made_string t) f = (length f.inner < 2 ^ 32) × AreThere f.outer
FitsBefore mode (made_part c) f = ⊤
FitsBefore mode made_string_end f = ⊤

abbrev pub Fit : Mode → List Made → Type 0
Fit mode [] = ⊤
Fit mode (q ∷ qs) = FitsBefore mode q (written mode qs) × Fit mode qs

-- ---- in memory

-- the octets w are at the back of a buffer, unless it has no room for all of them; n is their number
pub record IsAtBack (w old new : List ℕ) (n : ℕ) : Type 0 where
  pub count : n ≡ length w
  pub room : length new ≡ length old
  pub back : length w ≤ length old → new ≡ take (length old - length w) old ++ w

-- for each frame around the innermost, how many octets it and those around it have
abbrev pub AreMarks : List ℕ → List (List ℕ) → Type 0
AreMarks [] [] = ⊤
AreMarks [] (f ∷ fs) = ⊥
AreMarks (m ∷ ms) [] = ⊥
AreMarks (m ∷ ms) (f ∷ fs) = (m ≡ length (concat (f ∷ fs))) × AreMarks ms fs

-- frames at the back of a buffer
pub record HoldsFrames (f : Frames) (first now : List ℕ) (at : ℕ) (marks : List ℕ) : Type 0 where
  pub stored : IsAtBack (all_octets f) first now at
  pub are_marks : AreMarks (reverse marks) f.outer

-- ---- the same of trees

abbrev mutual
  pub spelled : Mode → Tree → List ℕ
  spelled mode (primitive t c) = definite t false c
  spelled mode (constructed t ts) = enclosed mode t (all_spelled mode ts)

  pub all_spelled : Mode → Trees → List ℕ
  all_spelled mode no_trees = []
  all_spelled mode (t ∷ₜ ts) = spelled mode t ++ all_spelled mode ts

abbrev mutual
  pub TreeFits : Mode → Tree → Type 0
  TreeFits mode (primitive t c) = length c < 2 ^ 32
  TreeFits mode (constructed t ts) = LengthFits mode (length (all_spelled mode ts)) × TreesFit mode ts

  pub TreesFit : Mode → Trees → Type 0
  TreesFit mode no_trees = ⊤
  TreesFit mode (t ∷ₜ ts) = TreeFits mode t × TreesFit mode ts
