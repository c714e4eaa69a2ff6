-- Passing over the segments of an octet string, without regard to how they are nested.
use Rattle.std.specs.Prelude.{◌≡◌, ℕ, List, ◌++◌, length, Option, Some, None, option_map}
use Rattle.bcder.specs.declared.mode.Mode.{Mode}
use Rattle.bcder.specs.steps.Segments.{read_segment}
use Rattle.encodings.specs.Open.{HasNoHeader, NotAtEnd}

-- a segment with these contents octets was passed, or the header or the end of a constructed one; x follows
pub record PassesPiece (mode : Mode) (w : List ℕ) (segment : Option (List ℕ)) (x : List ℕ) : Type 0 where
  pub read : read_segment mode w ≡ Some (option_map length segment, x)
  pub stands : (s : List ℕ) → segment ≡ Some s → (h : List ℕ) × (w ≡ h ++ (s ++ x))

-- the octets begin with neither
pub data HasNoPiece (mode : Mode) (w : List ℕ) : Type 0 where
  other : read_segment mode w ≡ None → HasNoPiece mode w
  nothing : HasNoHeader mode w → NotAtEnd mode None w → HasNoPiece mode w
