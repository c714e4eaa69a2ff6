-- What the arguments ask for.
use Rattle.std.specs.Prelude.{◌≡◌, ◌⊎◌, ℕ, Bool, true, false, List, [], ◌∷◌, ◌++◌, Option, Some, None, map, codes, ⊤}
use Rattle.bcder.specs.declared.mode.Mode.{Mode}
use Rattle.bcder.specs.declared.mode.Mode.TheVariants.{Ber, Cer, Der}
use Rattle.cli.specs.declared.arguments.Argument.{Argument}
use Rattle.cli.specs.declared.arguments.Argument.TheVariants as a
use Rattle.cli.specs.declared.form.Form.{Form}
use Rattle.cli.specs.Arguments.{IsForm, Reads, names_of, rules_option}
use Rattle.bercheck.specs.declared.request.Asked.{Asked}
use Rattle.bercheck.specs.declared.request.Asked.TheVariants as asked
use Rattle.bercheck.specs.declared.request.Settings.{Settings}

-- what was read of the arguments
pub record Read : Type 0 where
  pub mode : Mode
  pub contents : Option Bool
  pub form : Option Form
  pub files : List (List ℕ)

abbrev pub read_of : Settings → Read
read_of s = record { mode = s.mode; contents = s.contents; form = s.form; files = map (λ f. f.now) s.files.items }

-- an option changes what was read before it so, and takes words behind it
abbrev pub Sets : List ℕ → Read → List (List ℕ) → Read → List (List ℕ) → Type 0
Sets w s rest t behind =
    ((m : Mode) × (w ≡ rules_option m) × (t ≡ record s { mode = m }) × (behind ≡ rest))
    ⊎ ((w ≡ codes "--contents") × (t ≡ record s { contents = Some true }) × (behind ≡ rest))
    ⊎ ((w ≡ codes "--headers") × (t ≡ record s { contents = Some false }) × (behind ≡ rest))
    ⊎ ((f : Form) × (w ≡ codes "--input") × (t ≡ record s { form = Some f }) × IsForm rest behind f)

abbrev pub Does : Argument → Read → List (List ℕ) → Read → List (List ℕ) → Type 0
Does (a.File w) s rest t behind = (t ≡ record s { files = s.files ++ w.now ∷ [] }) × (behind ≡ rest)
Does (a.Option w) s rest t behind = Sets w.now s rest t behind

-- contents octets are looked at if an option says so, and else in DER
abbrev pub in_contents : Mode → Option Bool → Bool
in_contents m (Some b) = b
in_contents Ber None = false
in_contents Cer None = false
in_contents Der None = true

-- nothing was read yet
abbrev pub nothing : Read
nothing = record { mode = Ber; contents = None; form = None; files = [] }

-- an option asks for something else
abbrev pub IsOther : Argument → Asked → Type 0
IsOther (a.File w) o = ⊥
IsOther (a.Option w) asked.Help = (w.now ≡ codes "-h") ⊎ (w.now ≡ codes "--help")
IsOther (a.Option w) asked.Version = w.now ≡ codes "--version"
IsOther (a.Option w) (asked.Files r files) = ⊥

-- the words ask for this
abbrev pub IsAsked : List (List ℕ) → Asked → Type 0
IsAsked words asked.Help = ⊤
IsAsked words asked.Version = ⊤
IsAsked words (asked.Files r files) = (s : Read) × Reads Does false words nothing s × (r.mode ≡ s.mode)
    × (r.contents ≡ in_contents s.mode s.contents) × (r.form ≡ s.form) × (map (λ f. f.now) files.items ≡ names_of s.files)
