-- What texts are read as.
use Rattle.std.specs.Prelude.{◌≡◌, ◌⊎◌, ℕ, List, Option, Some, None}
use Rattle.std.specs.Str.{IsNotAscii}
use Rattle.bcder.specs.declared.mode.Mode.{Mode}
use Rattle.bcder.specs.calls.Captured.{AreWhole}
use Rattle.encodings.specs.Values.{AreNoValues}
use Rattle.cli.specs.declared.form.Form.{Form}
use Rattle.cli.specs.Spelling.{SpellsIn, SpellsNone, IsItself, SpellsEither, SpellsNeither}

-- a text spells octets: in the form that is asked for, or else, if it encodes no values, in hexadecimal or base 64
abbrev pub Spells : Mode → Option Form → List ℕ → List ℕ → Type 0
Spells mode (Some f) text v = SpellsIn f text v
Spells mode None text v = AreNoValues mode text × SpellsEither text v

-- it is to be read as it is
abbrev pub SpellsNothing : Mode → Option Form → List ℕ → Type 0
SpellsNothing mode (Some f) text = IsItself f
SpellsNothing mode None text = IsNotAscii text ⊎ AreWhole mode text ⊎ SpellsNeither text

-- it isn't in the form that is asked for
abbrev pub Misspells : Option Form → List ℕ → Type 0
Misspells (Some f) text = SpellsNone f text
Misspells None text = ⊥

-- it is read as the octets v
abbrev pub IsReadAs : Mode → Option Form → List ℕ → List ℕ → Type 0
IsReadAs mode f text v = Spells mode f text v ⊎ SpellsNothing mode f text × (v ≡ text)
