-- What the arguments ask for.
use Rattle.std.specs.Prelude.{◌≡◌, ◌⊎◌, ℕ, ◌≤◌, true, false, List, [], ◌∷◌, ◌++◌, Some, None, IfSome, length, map, codes, ⊤}
use Rattle.std.specs.Borrow.{Bor}
use Rattle.bcder.specs.declared.mode.Mode.{Mode}
use Rattle.bcder.specs.declared.mode.Mode.TheVariants.{Ber}
use Rattle.cli.specs.declared.arguments.Argument.{Argument}
use Rattle.cli.specs.declared.arguments.Argument.TheVariants as a
use Rattle.cli.specs.declared.form.Form.{Form}
use Rattle.cli.specs.Arguments.{IsForm, IsNumber, Reads, names_of, rules_option}
use Rattle.berdump.specs.declared.request.Asked.{Asked}
use Rattle.berdump.specs.declared.request.Asked.TheVariants as asked
use Rattle.berdump.specs.declared.request.Request.{Request}
use Rattle.berdump.specs.declared.scope.Scope.{Scope}

-- what was read of the arguments
pub record Read : Type 0 where
  pub request : Request
  pub files : List (List ℕ)

abbrev pub read_of : Request → List (Bor (List ℕ)) → Read
read_of r files = record { request = r; files = map (λ f. f.now) files }

-- an option changes which values have a line so, and takes words behind it
abbrev pub SetsScope : List ℕ → Scope → List (List ℕ) → Scope → List (List ℕ) → Type 0
SetsScope w s rest t behind =
    ((w ≡ codes "--inside") × (t ≡ record s { inside = true }) × (behind ≡ rest))
    ⊎ ((w ≡ codes "--hex") × (t ≡ record s { whole = true }) × (behind ≡ rest))
    ⊎ ((n : ℕ) × (w ≡ codes "--offset") × (t ≡ record s { from = n }) × IsNumber rest behind n)
    ⊎ ((n : ℕ) × (w ≡ codes "--depth") × (t ≡ record s { levels = Some n }) × IsNumber rest behind n)

-- an option changes how files are to be listed, and takes words behind it
abbrev pub Sets : List ℕ → Request → List (List ℕ) → Request → List (List ℕ) → Type 0
Sets w r rest q behind =
    ((m : Mode) × (w ≡ rules_option m) × (q ≡ record r { mode = m }) × (behind ≡ rest))
    ⊎ ((s : Scope) × SetsScope w r.scope rest s behind × (q ≡ record r { scope = s }))
    ⊎ ((n : ℕ) × (w ≡ codes "--value") × (q ≡ record r { value = Some n }) × IsNumber rest behind n)
    ⊎ ((f : Form) × (w ≡ codes "--input") × (q ≡ record r { form = Some f }) × IsForm rest behind f)

abbrev pub Does : Argument → Read → List (List ℕ) → Read → List (List ℕ) → Type 0
Does (a.File w) s rest t behind = (t ≡ record s { files = s.files ++ w.now ∷ [] }) × (behind ≡ rest)
Does (a.Option w) s rest t behind = Sets w.now s.request rest t.request behind × (t.files ≡ s.files)

-- an option asks for something else
abbrev pub IsOther : Argument → Asked → Type 0
IsOther (a.File w) o = ⊥
IsOther (a.Option w) asked.Help = (w.now ≡ codes "-h") ⊎ (w.now ≡ codes "--help")
IsOther (a.Option w) asked.Version = w.now ≡ codes "--version"
IsOther (a.Option w) (asked.Files r files) = ⊥

-- nothing was read yet: all lines are listed, in BER
abbrev pub nothing : Read
nothing = record {
  request = record { mode = Ber; scope = record { inside = false; from = 0; levels = None; whole = false }; form = None; value = None };
  files = [];
}

-- the words ask for this; the contents octets of a value are those of one file
abbrev pub IsAsked : List (List ℕ) → Asked → Type 0
IsAsked words asked.Help = ⊤
IsAsked words asked.Version = ⊤
IsAsked words (asked.Files r files) = (s : Read) × Reads Does false words nothing s × (r ≡ s.request)
    × (map (λ f. f.now) files.items ≡ names_of s.files) × IfSome r.value (λ _. length files.items ≤ 1)
