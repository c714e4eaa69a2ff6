-- Lines without control characters, and what is written of them.
use Rattle.std.specs.Prelude.{◌≡◌, ℕ, List, [], ◌++◌, Option}
use Rattle.std.specs.Io.KnownBytes.{Appends}
use Rattle.bcder.specs.calls.Encoders.{AppendsFront}
use Rattle.cli.specs.Shown.{IsLine}

-- a text is lines, each without control characters
pub data AreLines : List ℕ → Type 0 where
  none : AreLines []
  more : {text line all : List ℕ} → AreLines text → IsLine line → all ≡ text ++ line → AreLines all

-- a line was added
abbrev pub AddsLine : List ℕ → List ℕ → Type 0
AddsLine old new = (line : List ℕ) × IsLine line × (new ≡ old ++ line)

-- lines were written, and a prefix of lines
abbrev pub ShowsLines : Option (List ℕ) → Option (List ℕ) → Type 0
ShowsLines old new = (text : List ℕ) × AreLines text × Appends old new text

abbrev pub ShowsFront : Option (List ℕ) → Option (List ℕ) → Type 0
ShowsFront old new = (text : List ℕ) × AreLines text × AppendsFront old new text
