-- The lines that show values.
use Rattle.std.specs.Prelude.{◌≡◌, ℕ, ◌^◌, ◌-◌, Bool, true, false, List, [], ◌∷◌, ◌++◌, Option, Some, None, codes, decimal, min}
use Rattle.std.specs.Fmt.{format_spec, padded_integral, styled_text}
use Rattle.std.specs.Bool.{MatchBool}
use Rattle.cli.specs.Shown.{IsShown}
use Rattle.bcder.specs.calls.TagText.{tag_text}
use Rattle.berdump.specs.declared.heading.Heading.{Heading}
use Rattle.berdump.specs.declared.scope.Scope.{Scope}
use Rattle.berdump.specs.Scopes.{is_shown}

-- a number to the right of a column of so many characters, as a hole `{:5}` writes it, and to the left, as `{:<2}`
abbrev pub right : ℕ → ℕ → List ℕ
right width n = padded_integral (format_spec 32 0 0 width (2 ^ 64 - 1)) false [] (decimal n)

abbrev pub left : ℕ → ℕ → List ℕ
left width n = padded_integral (format_spec 32 1 0 width (2 ^ 64 - 1)) false [] (decimal n)

abbrev pub length_text : Option ℕ → List ℕ
length_text (Some n) = right 4 n
length_text None = codes "inf "

abbrev pub form_text : Bool → List ℕ
form_text false = codes "prim"
form_text true = codes "cons"

-- so many spaces
abbrev pub spaces : ℕ → List ℕ
spaces n = styled_text (format_spec 32 0 0 n (2 ^ 64 - 1)) []

abbrev pub place_text : Heading → List ℕ
place_text h = right 5 h.offset ++ codes ":d=" ++ left 2 h.depth ++ codes " hl=" ++ decimal h.header

abbrev pub name_text : Heading → List ℕ
name_text h = codes "l=" ++ length_text h.len ++ codes " " ++ form_text h.constructed ++ codes ": "
    ++ spaces (min h.depth 64) ++ tag_text h.tag

-- `OFFSET:d=DEPTH hl=HEADER l=LENGTH FORM: TAG`
abbrev pub heading_text : Heading → List ℕ
heading_text h = place_text h ++ codes " " ++ name_text h

-- a line of a heading: its text, what may be said of the contents, without control characters, and a newline
abbrev pub IsLine : Heading → List ℕ → Type 0
IsLine h w = (note : List ℕ) × IsShown note × (w ≡ heading_text h ++ note ++ codes "\n")

-- the line of a heading, if values of its depth have one
abbrev pub HasLine : Scope → Heading → List ℕ → Type 0
HasLine scope h w = MatchBool (is_shown scope h.depth) (IsLine h w) (w ≡ [])

-- a line for each heading
abbrev pub AreLines : Scope → List Heading → List ℕ → Type 0
AreLines scope [] w = w ≡ []
AreLines scope (h ∷ hs) w = (first others : List ℕ) × HasLine scope h first × AreLines scope hs others × (w ≡ first ++ others)
