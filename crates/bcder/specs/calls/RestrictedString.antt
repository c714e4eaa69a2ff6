-- Restricted character strings (ITU-T X.690, 8.23), and what the calls of a character set return.
use Rattle.std.specs.Prelude.{◌≡◌, ◌≢◌, ℕ, List, [], Option, Some, None, Result, Ok, Err, codes, ◌⊎◌}
use Rattle.std.specs.Cow.{cow_slice_items}
use Rattle.std.specs.Str.{chars}
use Rattle.std.specs.declared.borrow.CowSlice.{CowSlice}
use Rattle.std.specs.Borrow.{Bor}
use Rattle.bcder.specs.declared.{string.restricted.char_set.CharSetError.CharSetError, string.restricted.char_set.StringError.StringError}
use Rattle.bcder.specs.declared.{mode.Mode.Mode}
use Rattle.bcder.specs.declared.string.restricted.char_set.StringError.TheVariants.{CharSet, NoMemory}
use Rattle.bcder.specs.x690.CharSet.{Step, Spells, IsOfSet, HasNo, HasSome}
use Rattle.bcder.specs.x690.Characters.{characters}
use Rattle.bcder.specs.x690.Tree.{Tree}
use Rattle.bcder.specs.calls.StringOctets.{StringOctets, whole, octets_of, MeansString}

module _ (step : Step) where
  -- the next character, and the octets after it are left; or none, at the end; or an error, as no character comes next
  abbrev pub NextChar : List ℕ → Result (Option ℕ) CharSetError → List ℕ → Type 0
  NextChar w (Ok None) rest = (w ≡ []) × (rest ≡ [])
  NextChar w (Ok (Some c)) rest = step w ≡ Some (record { char = c; rest = rest })
  NextChar w (Err e) rest = (w ≢ []) × (step w ≡ None)

  -- the result says whether octets are a string of the set
  abbrev pub Checks : {A : Type 0} → List ℕ → Result A CharSetError → Type 0
  Checks w (Ok a) = IsOfSet step w
  Checks w (Err e) = IsOfSet step w → ⊥

  -- octets that spell the characters of a text; or an error: no octets spell them, or memory ran out, if it may
  abbrev pub SpellsText : {Z : Type 0} → Type 0 → List ℕ → Result (CowSlice ℕ Z) StringError → Type 0
  SpellsText may_lack text (Ok octets) = Spells step (cow_slice_items octets) (chars text)
  SpellsText may_lack text (Err CharSet) = HasNo step (chars text)
  SpellsText may_lack text (Err NoMemory) = may_lack

module _ (step : Step) where
  -- the characters still to come: those of a text, if one is at hand, or those that the octets spell
  abbrev pub characters_left : Option (Bor (List ℕ)) → List ℕ → List ℕ
  characters_left (Some text) w = chars text.now
  characters_left None w = characters step w

abbrev pub string_error_text : StringError → List ℕ
string_error_text CharSet = codes "invalid character"
string_error_text NoMemory = codes "out of memory"

-- ---- strings of a set

module _ (step : Step) where
  -- a value is read as an octet string whose octets are a string of the set (8.23.3)
  abbrev pub MeansRestricted : Mode → Tree → StringOctets → Type 0
  MeansRestricted mode t s = MeansString mode t s × IsOfSet step (octets_of s)

  -- a value is read as the octets of a string of the set, in one piece
  abbrev pub MeansPiece : Mode → Tree → List ℕ → Type 0
  MeansPiece mode t w = MeansRestricted mode t (whole w)

  -- the octets of a text in one piece; or that the set lacks some of its characters; or that memory ran out: for the set, if it may,
  -- or for a copy of octets that there are
  abbrev pub MakesText : Type 0 → List ℕ → Result StringOctets StringError → Type 0
  MakesText may_lack text (Ok s) = (w : List ℕ) × (s ≡ whole w) × Spells step w (chars text)
  MakesText may_lack text (Err CharSet) = HasNo step (chars text)
  MakesText may_lack text (Err NoMemory) = may_lack ⊎ HasSome step (chars text)
