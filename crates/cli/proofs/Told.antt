-- What is told.
use Rattle.std.proofs.Common.{ℕ, List, ◌++◌, Option, codes, sym, append_assoc}
use Rattle.bcder.specs.calls.Encoders.{AppendsFront}
use Rattle.cli.specs.Shown.{IsShown}
use Rattle.cli.specs.Told.{Tells}

-- the name of a program, and a text
pub told : (a b : Option (List ℕ)) (name text : List ℕ) → IsShown (name ++ text) → AppendsFront a b (name ++ (text ++ codes "\n")) → Tells a b
told a b name text h k = (name ++ (text ++ codes "\n"), (name ++ text, h, sym (append_assoc name text (codes "\n"))), k)
