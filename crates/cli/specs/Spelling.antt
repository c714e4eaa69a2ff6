-- Octets that texts spell.
use Rattle.std.specs.Prelude.{◌≡◌, ◌⊎◌, ℕ, Bool, true, List, [], ◌∷◌, nat_eq, nat_le, ◌||◌, ◌&&◌, if◌then◌else◌, Ok, Err, codes, ⊤}
use Rattle.base64.specs.Alphabets.{standard}
use Rattle.base64.specs.Alphabet.{alphabet_symbols, alphabet_padding}
use Rattle.base64.specs.GeneralPurpose.{IsConfig, engine_symbols, engine_padding, engine_config, decode_of as base64_of}
use Rattle.base64.specs.declared.engine.DecodePaddingMode.TheVariants.{RequireCanonical}
use Rattle.base64.specs.declared.engine.general_purpose.GeneralPurpose.{GeneralPurpose}
use Rattle.base64.specs.declared.decode.DecodeError.{DecodeError}
use Rattle.hex.specs.Hex.{decode_of as hex_of}
use Rattle.hex.specs.declared.error.FromHexError.{FromHexError}
use Rattle.cli.specs.declared.form.Misspelled.{Misspelled}
use Rattle.cli.specs.declared.form.Misspelled.TheVariants as why
use Rattle.cli.specs.declared.form.Form.{Form}
use Rattle.cli.specs.declared.form.Form.TheVariants as form

-- the name of a form on a command line
abbrev pub name_of : Form → List ℕ
name_of form.Octets = codes "der"
name_of form.Hex = codes "hex"
name_of form.Base64 = codes "base64"
name_of form.Pem = codes "pem"

abbrev pub IsName : Form → List ℕ → Type 0
IsName f name = name ≡ name_of f

-- an octet is a space, a tab or an end of a line
abbrev pub is_blank : ℕ → Bool
is_blank c = nat_eq c 32 || nat_le 9 c && nat_le c 13

-- octets without those
abbrev pub dense : List ℕ → List ℕ
dense [] = []
dense (c ∷ w) = if is_blank c then dense w else c ∷ dense w

-- the octets that hexadecimal digits spell, and that they spell none
abbrev pub SpellsHex : List ℕ → List ℕ → Type 0
SpellsHex text octets = hex_of (dense text) ≡ Ok octets

abbrev pub SpellsNoHex : List ℕ → Type 0
SpellsNoHex text = (e : FromHexError) × (hex_of (dense text) ≡ Err e)

-- an engine for base 64 (RFC 4648, 4), for which the bits that are left of the last octet need not be zero
abbrev pub IsEngine : GeneralPurpose → Type 0
IsEngine e = (engine_symbols e ≡ alphabet_symbols standard) × (engine_padding e ≡ alphabet_padding standard)
    × IsConfig (engine_config e) true true RequireCanonical

abbrev pub SpellsBase64 : List ℕ → List ℕ → Type 0
SpellsBase64 text octets = (e : GeneralPurpose) × IsEngine e × (base64_of e (dense text) ≡ Ok octets)

abbrev pub SpellsNoBase64 : List ℕ → Type 0
SpellsNoBase64 text = (e : GeneralPurpose) × IsEngine e × (x : DecodeError) × (base64_of e (dense text) ≡ Err x)

-- why nothing was returned: the text spells nothing, or memory ran out
abbrev pub IsMisspelled : Type 0 → Misspelled → Type 0
IsMisspelled none why.Form = none
IsMisspelled none why.NoMemory = Unit {0}

-- ---- forms

-- a text spells octets in a form, and none
abbrev pub SpellsIn : Form → List ℕ → List ℕ → Type 0
SpellsIn form.Octets text v = ⊥
SpellsIn form.Hex text v = SpellsHex text v
SpellsIn form.Base64 text v = SpellsBase64 text v
SpellsIn form.Pem text v = ⊥

abbrev pub SpellsNone : Form → List ℕ → Type 0
SpellsNone form.Octets text = ⊥
SpellsNone form.Hex text = SpellsNoHex text
SpellsNone form.Base64 text = SpellsNoBase64 text
SpellsNone form.Pem text = ⊥

-- the form is that of the octets themselves, or of blocks
abbrev pub IsItself : Form → Type 0
IsItself form.Octets = ⊤
IsItself form.Hex = ⊥
IsItself form.Base64 = ⊥
IsItself form.Pem = ⊤

-- a text spells octets in hexadecimal, or else in base 64, and none in either
abbrev pub SpellsEither : List ℕ → List ℕ → Type 0
SpellsEither text v = SpellsHex text v ⊎ SpellsNoHex text × SpellsBase64 text v

abbrev pub SpellsNeither : List ℕ → Type 0
SpellsNeither text = SpellsNoHex text × SpellsNoBase64 text
