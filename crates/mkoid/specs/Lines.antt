-- The lines of arguments.
use Rattle.std.specs.Prelude.{◌≡◌, ◌≢◌, ℕ, List, [], ◌∷◌, ◌++◌, Option, flat_map, codes, decimal}
use Rattle.std.specs.Io.KnownBytes.{Appends}
use Rattle.bcder.specs.calls.Encoders.{AppendsShorter}
use Rattle.bcder.specs.declared.oid.text.OidError.{OidError}
use Rattle.bcder.specs.calls.Identifiers.{IsTextOf, RefusesText, error_text}

-- an octet in decimal and a comma
abbrev pub with_comma : ℕ → List ℕ
with_comma octet = decimal octet ++ codes ","

-- `[85,29,19,]`
abbrev pub octets_line : List ℕ → List ℕ
octets_line octets = codes "[" ++ flat_map with_comma octets ++ codes "]\n"

-- `ARG: TEXT.`
abbrev pub refusal_line : List ℕ → OidError → List ℕ
refusal_line arg e = arg ++ (codes ": " ++ (error_text e ++ codes ".\n"))

-- the line of an argument that names an identifier: its octets
abbrev pub IsNamed : List ℕ → List ℕ → Type 0
IsNamed arg line = (octets : List ℕ) × IsTextOf arg octets × (line ≡ octets_line octets)

-- the line of an argument: the octets of the identifier that it names; or why it
-- names none, or that there was no memory for those that it names
pub data IsLine (arg line : List ℕ) : Type 0 where
  named : IsNamed arg line → IsLine arg line
  refused : (e : OidError) → RefusesText arg e → line ≡ refusal_line arg e → IsLine arg line

-- a line for each argument
abbrev pub AreLines : List (List ℕ) → List ℕ → Type 0
AreLines [] text = text ≡ []
AreLines (arg ∷ args) text = (line : List ℕ) × (rest : List ℕ) × IsLine arg line × AreLines args rest × (text ≡ line ++ rest)

-- the lines of all arguments were written
abbrev pub WritesAll : List (List ℕ) → Option (List ℕ) → Option (List ℕ) → Type 0
WritesAll args old new = (text : List ℕ) × AreLines args text × Appends old new text

-- the lines of the arguments before one were written, and of that one's a beginning that isn't all of it
pub record WritesSome (args : List (List ℕ)) (old new : Option (List ℕ)) : Type 0 where
  pub before : List (List ℕ)
  pub arg : List ℕ
  pub after : List (List ℕ)
  pub args_are : args ≡ before ++ arg ∷ after
  pub text : List ℕ
  pub written : AreLines before text
  pub line : List ℕ
  pub is_line : IsLine arg line
  pub front : List ℕ
  pub rest : List ℕ
  pub whole : line ≡ front ++ rest
  pub shorter : rest ≢ []
  pub appends : Appends old new (text ++ front)

-- the line of one argument was written, or a beginning of it that isn't all
abbrev pub WritesLine : List ℕ → Option (List ℕ) → Option (List ℕ) → Type 0
WritesLine arg old new = (line : List ℕ) × IsLine arg line × Appends old new line

abbrev pub WritesPart : List ℕ → Option (List ℕ) → Option (List ℕ) → Type 0
WritesPart arg old new = (line : List ℕ) × IsLine arg line × AppendsShorter old new line
