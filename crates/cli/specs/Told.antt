-- What is told on standard error.
use Rattle.std.specs.Prelude.{ℕ, List, ◌++◌, Option, codes}
use Rattle.bcder.specs.calls.Encoders.{AppendsFront}
use Rattle.cli.specs.Shown.{IsLine, IsShown}

-- a line without control characters was written, or a prefix of it
abbrev pub Tells : Option (List ℕ) → Option (List ℕ) → Type 0
Tells old new = (line : List ℕ) × IsLine line × AppendsFront old new line

-- the name of a program: what is told without memory begins with it
abbrev pub IsProgram : List ℕ → Type 0
IsProgram name = IsShown (name ++ codes ": out of memory") × IsShown (name ++ codes ": the output can't be written")
