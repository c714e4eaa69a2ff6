-- The words of the arguments, and what they ask for.
use Rattle.std.specs.Prelude.{◌≡◌, ◌≢◌, ◌⊎◌, ℕ, true, false, List, ◌∷◌, Option, Some, None, codes, ⊤}
use Rattle.std.specs.Borrow.{Bor}
use Rattle.bcder.specs.declared.mode.Mode.{Mode}
use Rattle.bcder.specs.declared.mode.Mode.TheVariants.{Ber, Cer, Der}
use Rattle.cli.specs.declared.arguments.Argument.{Argument}
use Rattle.cli.specs.declared.arguments.Argument.TheVariants as a
use Rattle.cli.specs.declared.form.Form.{Form}
use Rattle.cli.specs.Armor.{is_label}
use Rattle.cli.specs.Arguments.{IsForm, Reads}
use Rattle.berconv.specs.declared.request.Asked.{Asked}
use Rattle.berconv.specs.declared.request.Asked.TheVariants as asked
use Rattle.berconv.specs.declared.request.Request.{Request}

abbrev pub mode_word : Mode → List ℕ
mode_word Ber = codes "ber"
mode_word Cer = codes "cer"
mode_word Der = codes "der"

-- the name of rules was next, and the rest follows it; and a label was
abbrev pub IsRules : List (List ℕ) → List (List ℕ) → Mode → Type 0
IsRules words rest mode = words ≡ mode_word mode ∷ rest

abbrev pub IsLabel : List (List ℕ) → List (List ℕ) → Bor (List ℕ) → Type 0
IsLabel words rest label = (words ≡ label.now ∷ rest) × (is_label label.now ≡ true)

-- what was read of the arguments
pub record Read : Type 0 where
  pub request : Request
  pub file : Option (Bor (List ℕ))

abbrev pub read_of : Request → Option (Bor (List ℕ)) → Read
read_of r file = record { request = r; file = file }

-- an option changes what is to be converted, and how, so, and takes words behind it
abbrev pub Sets : List ℕ → Request → List (List ℕ) → Request → List (List ℕ) → Type 0
Sets w r rest q behind =
    ((m : Mode) × (w ≡ codes "--from") × (q ≡ record r { from = m }) × IsRules rest behind m)
    ⊎ ((m : Mode) × (w ≡ codes "--to") × (q ≡ record r { to = m }) × IsRules rest behind m)
    ⊎ ((w ≡ codes "--sort-sets") × (q ≡ record r { sorts = true }) × (behind ≡ rest))
    ⊎ ((f : Form) × (w ≡ codes "--input") × (q ≡ record r { form = Some f }) × IsForm rest behind f)
    ⊎ ((l : Bor (List ℕ)) × (w ≡ codes "--pem") × (q ≡ record r { pem = Some l }) × IsLabel rest behind l)

abbrev pub Does : Argument → Read → List (List ℕ) → Read → List (List ℕ) → Type 0
Does (a.File w) s rest t behind = (s.file ≡ None) × (t ≡ record s { file = Some w }) × (behind ≡ rest)
Does (a.Option w) s rest t behind = Sets w.now s.request rest t.request behind × (t.file ≡ s.file)

-- an option asks for something else
abbrev pub IsOther : Argument → Asked → Type 0
IsOther (a.File w) o = ⊥
IsOther (a.Option w) asked.Help = (w.now ≡ codes "-h") ⊎ (w.now ≡ codes "--help")
IsOther (a.Option w) asked.Version = w.now ≡ codes "--version"
IsOther (a.Option w) (asked.Conversion r name) = ⊥

-- nothing was read yet: BER becomes DER
abbrev pub nothing : Read
nothing = record { request = record { from = Ber; to = Der; sorts = false; form = None; pem = None }; file = None }

-- the file that is read: standard input if none is named
abbrev pub name_of : Option (Bor (List ℕ)) → List ℕ
name_of None = codes "-"
name_of (Some name) = name.now

-- the words ask for this; values of SETs aren't sorted in BER
abbrev pub IsAsked : List (List ℕ) → Asked → Type 0
IsAsked words asked.Help = ⊤
IsAsked words asked.Version = ⊤
IsAsked words (asked.Conversion r name) =
    (s : Read) × Reads Does false words nothing s × (r ≡ s.request) × (name.now ≡ name_of s.file) × (r.sorts ≡ true → r.to ≢ Ber)
