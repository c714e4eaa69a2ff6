-- The lines that show headings.
use Rattle.std.specs.Prelude.{ℕ, Bool, true, false, List, [], ◌∷◌, ◌++◌, codes, decimal}
use Rattle.bcder.specs.x690.Preorder.{Heading}
use Rattle.bcder.specs.calls.TagText.{tag_text}

abbrev pub form_text : Bool → List ℕ
form_text false = codes "primitive"
form_text true = codes "constructed"

-- `DEPTH TAG primitive` or `DEPTH TAG constructed`, and a newline
abbrev pub line : Heading → List ℕ
line h = decimal h.depth ++ codes " " ++ tag_text h.tag ++ codes " " ++ form_text h.constructed ++ codes "\n"

-- a line for each heading
abbrev pub lines : List Heading → List ℕ
lines [] = []
lines (h ∷ hs) = line h ++ lines hs
