-- What comes next on a command line.
use Rattle.std.specs.Prelude.{◌≡◌, ◌⊎◌, ℕ, ◌<◌, ◌^◌, Bool, true, false, List, [], ◌∷◌, codes, nat_eq}
use Rattle.std.specs.Str.Parse.{IsNumeral, digits_value, without_leading_plus}
use Rattle.bcder.specs.declared.mode.Mode.{Mode}
use Rattle.bcder.specs.declared.mode.Mode.TheVariants.{Ber, Cer, Der}
use Rattle.cli.specs.declared.arguments.Argument.{Argument}
use Rattle.cli.specs.declared.arguments.Argument.TheVariants as a
use Rattle.cli.specs.declared.form.Form.{Form}
use Rattle.cli.specs.Spelling.{name_of}

-- a word is an option: it begins with `-`, and goes on
abbrev pub is_option : List ℕ → Bool
is_option [] = false
is_option (c ∷ []) = false
is_option (c ∷ d ∷ w) = nat_eq c 45

-- the argument that comes first of some words, and the words behind it; behind `--` all are files
abbrev pub Comes : Bool → List (List ℕ) → Bool → List (List ℕ) → Argument → Type 0
Comes only words then rest (a.Option w) = (only ≡ false) × (then ≡ false) × (is_option w.now ≡ true) × (words ≡ w.now ∷ rest)
Comes only words then rest (a.File w) = (then ≡ only) × (only ≡ false → is_option w.now ≡ false) × (words ≡ w.now ∷ rest)
    ⊎ (only ≡ false) × (then ≡ true) × (words ≡ codes "--" ∷ w.now ∷ rest)

-- none comes
abbrev pub IsEnd : Bool → List (List ℕ) → Type 0
IsEnd only words = (words ≡ []) ⊎ (only ≡ false) × (words ≡ codes "--" ∷ [])

-- words are read up to the last: each argument, which may take words behind it, does to what was read before it as Does says
pub data Reads {S : Type 0} (Does : Argument → S → List (List ℕ) → S → List (List ℕ) → Type 0) : Bool → List (List ℕ) → S → S → Type 0 where
  end : {only : Bool} {words : List (List ℕ)} {s : S} → IsEnd only words → Reads Does only words s s
  more : {only then : Bool} {words rest behind : List (List ℕ)} {s t u : S} (x : Argument) → Comes only words then rest x
      → Does x s rest t behind → Reads Does then behind t u → Reads Does only words s u

-- the name of a form was next, and the rest follows it; and none is
abbrev pub IsForm : List (List ℕ) → List (List ℕ) → Form → Type 0
IsForm words rest f = words ≡ name_of f ∷ rest

abbrev pub IsNoForm : List (List ℕ) → Type 0
IsNoForm words = (f : Form) (rest : List (List ℕ)) → words ≡ name_of f ∷ rest → ⊥

-- a word spells a number of a `usize` in decimal digits
abbrev pub Counts : List ℕ → ℕ → Type 0
Counts w n = IsNumeral 10 (without_leading_plus w) × (digits_value 10 (without_leading_plus w) ≡ n) × (n < 2 ^ 64)

abbrev pub IsNumber : List (List ℕ) → List (List ℕ) → ℕ → Type 0
IsNumber words rest n = (w : List ℕ) × (words ≡ w ∷ rest) × Counts w n

abbrev pub IsNoNumber : List (List ℕ) → Type 0
IsNoNumber words = (w : List ℕ) (rest : List (List ℕ)) (n : ℕ) → words ≡ w ∷ rest → Counts w n → ⊥

-- the files that are read: standard input if none is named
abbrev pub names_of : List (List ℕ) → List (List ℕ)
names_of [] = codes "-" ∷ []
names_of (f ∷ fs) = f ∷ fs

-- the option that names encoding rules
abbrev pub rules_option : Mode → List ℕ
rules_option Ber = codes "--ber"
rules_option Cer = codes "--cer"
rules_option Der = codes "--der"
