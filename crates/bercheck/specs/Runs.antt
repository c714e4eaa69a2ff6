-- Which files break a rule.
use Rattle.std.specs.Prelude.{◌≡◌, ◌≢◌, ◌⊎◌, ℕ, List, [], ◌∷◌, Option, Some, None, MatchResult, ⊤}
use Rattle.cli.specs.declared.files.Input.{Input}
use Rattle.cli.specs.declared.form.Form.{Form}
use Rattle.cli.specs.declared.pem.Block.{Block}
use Rattle.cli.specs.declared.pem.BlockError.{BlockError}
use Rattle.cli.specs.declared.pem.BlockError.TheVariants.{NoMemory}
use Rattle.cli.specs.Pem.{AreBlocks, HasBlocks, HasNoBlock, HasNoBlocks, HasNoOctets, HasOctets, IsAmong, IsNext}
use Rattle.cli.specs.Spelling.{IsItself, SpellsIn, SpellsNone}
use Rattle.rules.specs.Means.{AreRight}
use Rattle.bercheck.specs.declared.request.Request.{Request}

-- octets break a rule
abbrev pub AreBroken : Request → List ℕ → Type 0
AreBroken r v = AreRight r.mode r.contents v → ⊥

abbrev pub AreAllRight : Request → List (List ℕ) → Type 0
AreAllRight r [] = ⊤
AreAllRight r (v ∷ vs) = AreRight r.mode r.contents v × AreAllRight r vs

-- ---- blocks

-- the octets that a block carries break no rule; and it carries none, or they break one
abbrev pub IsBlockRight : Request → Block → Type 0
IsBlockRight r b = (v : List ℕ) × HasOctets b v × AreRight r.mode r.contents v

abbrev pub IsBlockBroken : Request → Block → Type 0
IsBlockBroken r b = ((e : BlockError) × (e ≢ NoMemory) × HasNoOctets b e) ⊎ ((v : List ℕ) × HasOctets b v × AreBroken r v)

-- those of all blocks of a text break none; and one of its blocks is broken
abbrev pub AreBlocksRight : Request → List ℕ → Type 0
AreBlocksRight r text = (vs : List (List ℕ)) × AreBlocks text vs × AreAllRight r vs

abbrev pub HasBrokenBlock : Request → List ℕ → Type 0
HasBrokenBlock r text = (b : Block) × IsAmong b text × IsBlockBroken r b

-- a text begins with a block, and breaks none; or it has no block, or one that is broken
abbrev pub IsTextRight : Request → List ℕ → Type 0
IsTextRight r text = ((b : Block) × IsNext text b) × AreBlocksRight r text

abbrev pub IsTextBroken : Request → List ℕ → Type 0
IsTextBroken r text = HasNoBlock text ⊎ HasBrokenBlock r text

-- ---- forms

-- a text spells octets in the form that is asked for; it is to be read as it is; it isn't in the form
abbrev pub SpellsInForm : Option Form → List ℕ → List ℕ → Type 0
SpellsInForm (Some f) text v = SpellsIn f text v
SpellsInForm None text v = ⊥

abbrev pub IsItselfIn : Option Form → Type 0
IsItselfIn (Some f) = IsItself f
IsItselfIn None = ⊤

abbrev pub MisspellsIn : Option Form → List ℕ → Type 0
MisspellsIn (Some f) text = SpellsNone f text
MisspellsIn None text = ⊥

-- it is read as the octets v
abbrev pub IsReadAs : Option Form → List ℕ → List ℕ → Type 0
IsReadAs f text v = SpellsInForm f text v ⊎ IsItselfIn f × (v ≡ text)

-- ---- files

-- what a file holds, in the form that is asked for or found, breaks no rule; and it isn't in the form, or breaks one
pub data IsInputRight (r : Request) (octets : List ℕ) : Type 0 where
  blocks : HasBlocks r.form octets → IsTextRight r octets → IsInputRight r octets
  one : HasNoBlocks r.form octets → (v : List ℕ) → IsReadAs r.form octets v → AreRight r.mode r.contents v → IsInputRight r octets

pub data IsInputBroken (r : Request) (octets : List ℕ) : Type 0 where
  blocks : HasBlocks r.form octets → IsTextBroken r octets → IsInputBroken r octets
  misspelled : HasNoBlocks r.form octets → MisspellsIn r.form octets → IsInputBroken r octets
  one : HasNoBlocks r.form octets → (v : List ℕ) → IsReadAs r.form octets v → AreBroken r v → IsInputBroken r octets

-- a file was read, and this is so
abbrev pub IsFileRight : Request → Input → Type 0
IsFileRight r input = MatchResult input.octets (λ v. IsInputRight r v.items) (λ e. ⊥)

abbrev pub IsFileBroken : Request → Input → Type 0
IsFileBroken r input = MatchResult input.octets (λ v. IsInputBroken r v.items) (λ e. ⊥)

-- of each file; and of one
abbrev pub AreFilesRight : Request → List Input → Type 0
AreFilesRight r [] = ⊤
AreFilesRight r (i ∷ is) = IsFileRight r i × AreFilesRight r is

abbrev pub HasBrokenFile : Request → List Input → Type 0
HasBrokenFile r [] = ⊥
HasBrokenFile r (i ∷ is) = IsFileBroken r i ⊎ HasBrokenFile r is
