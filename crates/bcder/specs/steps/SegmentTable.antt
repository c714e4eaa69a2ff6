-- The table of the segments of an octet string that was cut.
use Rattle.std.specs.Prelude.{◌≡◌, ◌⊎◌, ℕ, ◌+◌, ◌≤◌, true, false, List, [], ◌∷◌, ◌++◌, length, map, slice_range, ⊤}
use Rattle.std.specs.List.{concat}
use Rattle.bcder.specs.declared.length.Length.{Length}
use Rattle.bcder.specs.declared.length.Length.TheVariants.{Definite}
use Rattle.bcder.specs.declared.mode.Mode.{Mode}
use Rattle.bcder.specs.declared.string.octet.Segment.{Segment}
use Rattle.bcder.specs.x690.Encoding.{IsHeader}
use Rattle.bcder.specs.x690.Length.{IsEndOfContents}
use Rattle.bcder.specs.x690.OctetString.{octet_string_tag, AreSegmented}

-- the contents octets of a segment, in the octets
abbrev pub segment_at : List ℕ → Segment → List ℕ
segment_at w s = slice_range w s.start (s.start + s.len)

abbrev pub segments_at : List ℕ → List Segment → List (List ℕ)
segments_at w ss = map (segment_at w) ss

-- each segment is within the octets
abbrev pub AreWithin : List ℕ → List Segment → Type 0
AreWithin w [] = ⊤
AreWithin w (s ∷ ss) = (s.start + s.len ≤ length w) × AreWithin w ss

-- what is between primitive segments: the header of a constructed one, or end-of-contents octets (8.7.3.2, 8.1.5)
abbrev pub IsMark : Mode → List ℕ → Type 0
IsMark mode w = ((len : Length) × IsHeader mode octet_string_tag true len w) ⊎ IsEndOfContents mode w

abbrev pub AreMarks : Mode → List (List ℕ) → Type 0
AreMarks mode [] = ⊤
AreMarks mode (w ∷ ws) = IsMark mode w × AreMarks mode ws

-- after the first n octets come marks, if any, then a header, and right after it the segment s
pub record IsNext (mode : Mode) (w : List ℕ) (n : ℕ) (s : Segment) : Type 0 where
  pub marks : List (List ℕ)
  pub header : List ℕ
  pub are_marks : AreMarks mode marks
  pub is_header : IsHeader mode octet_string_tag false (Definite s.len) header
  pub is : slice_range w n s.start ≡ concat marks ++ header

-- each segment is the next one after the first n octets, or after the segment before it
abbrev pub AreInOrder : Mode → List ℕ → ℕ → List Segment → Type 0
AreInOrder mode w n [] = ⊤
AreInOrder mode w n (s ∷ ss) = IsNext mode w n s × AreInOrder mode w (s.start + s.len) ss

-- the table says where the parts of the segments that the octets are begin and end, each once, in order
pub record IsTable (mode : Mode) (w : List ℕ) (ss : List Segment) : Type 0 where
  pub within : AreWithin w ss
  pub ordered : AreInOrder mode w 0 ss
  pub segmented : AreSegmented mode w (segments_at w ss)
