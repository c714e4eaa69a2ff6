-- How a run over files ends: over their octets, or over the blocks of a text (RFC 7468).
use Rattle.std.specs.Prelude.{◌≡◌, ◌≢◌, ◌≤◌, ◌<◌, ◌⊎◌, ℕ, Bool, true, false, List, [], ◌∷◌, ◌++◌, Option, MatchResult, codes, drop, length}
use Rattle.std.specs.Io.KnownBytes.{Appends, Keeps}
use Rattle.bcder.specs.declared.mode.Mode.{Mode}
use Rattle.bcder.specs.calls.Encoders.{AppendsFront}
use Rattle.cli.specs.declared.files.Input.{Input}
use Rattle.cli.specs.Pem.{HasBlocks, HasNoBlocks, HasNoBlock, HasOctets, IsNext}
use Rattle.cli.specs.Spelled.{IsReadAs}
use Rattle.cli.specs.declared.pem.Block.{Block}
use Rattle.cli.specs.Shown.{IsLine}
use Rattle.berdump.specs.declared.heading.Heading.{Heading}
use Rattle.berdump.specs.declared.list.ListError.{ListError}
use Rattle.berdump.specs.declared.list.ListError.TheVariants.{Refused, NoMemory, Target}
use Rattle.berdump.specs.declared.request.Request.{Request}
use Rattle.berdump.specs.declared.scope.Scope.{Scope}
use Rattle.cli.specs.declared.status.Status.{Status}
use Rattle.cli.specs.declared.status.Status.TheVariants as status
use Rattle.berdump.specs.Lines.{AreLines}
use Rattle.berdump.specs.Listing.{AreListed, IsNoList}
use Rattle.berdump.specs.Answers.{AllStand, Listed, ListedInPart, CutOff, HasContents}

-- the status of an error
abbrev pub status_of : ListError → Status
status_of (Refused at why) = status.Refused
status_of NoMemory = status.Failed
status_of (Target e) = status.Failed

-- how a run over octets ends: where all is written, all lines of their values from the scope's offset on
pub data Ends (scope : Scope) (mode : Mode) (octets : List ℕ) (old new : Option (List ℕ)) (s : Status) : Type 0 where
  listed : s ≡ status.Done → scope.from ≤ length octets → Listed scope mode (drop scope.from octets) old new
      → Ends scope mode octets old new s
  outside : s ≡ status.Refused → length octets < scope.from → Keeps old new → Ends scope mode octets old new s
  refused : s ≡ status.Refused → IsNoList mode (drop scope.from octets) → ListedInPart scope mode (drop scope.from octets) old new
      → Ends scope mode octets old new s
  no_memory : s ≡ status.Failed → ListedInPart scope mode (drop scope.from octets) old new → Ends scope mode octets old new s
  out_failed : s ≡ status.Failed → CutOff scope mode (drop scope.from octets) old new → Ends scope mode octets old new s
  unflushed : s ≡ status.Failed → Listed scope mode (drop scope.from octets) old new → Ends scope mode octets old new s

-- the lines of octets were written, all from the scope's offset on
pub record IsWhole (scope : Scope) (mode : Mode) (octets : List ℕ) (old new : Option (List ℕ)) : Type 0 where
  pub within : scope.from ≤ length octets
  pub listed : Listed scope mode (drop scope.from octets) old new

-- ---- titles

-- what stands in front of a title: an empty line, if it isn't the first
abbrev pub between : Bool → List ℕ
between true = []
between false = codes "\n"

-- a line that names what follows, and what stands in front of it
abbrev pub IsTitle : Bool → List ℕ → Type 0
IsTitle first w = (line : List ℕ) × IsLine line × (w ≡ between first ++ line)

-- it was written, and a prefix of it
pub record Titled (first : Bool) (old new : Option (List ℕ)) : Type 0 where
  pub title : List ℕ
  pub is : IsTitle first title
  pub appends : Appends old new title

pub record TitleCutOff (first : Bool) (old new : Option (List ℕ)) : Type 0 where
  pub title : List ℕ
  pub is : IsTitle first title
  pub appends : AppendsFront old new title

-- what an error says of a title
abbrev pub IsUntitled : Bool → Option (List ℕ) → Option (List ℕ) → ListError → Type 0
IsUntitled first old new (Refused at why) = ⊥
IsUntitled first old new NoMemory = Keeps old new
IsUntitled first old new (Target e) = TitleCutOff first old new

-- ---- several texts, one after the other

abbrev pub AnyTitle : List ℕ → Type 0
AnyTitle w = (first : Bool) × IsTitle first w

-- a text is the lines of the values that some octets encode
pub record IsText (scope : Scope) (mode : Mode) (text : List ℕ) : Type 0 where
  pub octets : List ℕ
  pub headings : List Heading
  pub listed : AreListed scope mode octets scope.from 0 headings
  pub lines : AreLines scope headings text

-- a text is the lines of values whose headings stand in some octets
pub record IsTextInPart (scope : Scope) (mode : Mode) (text : List ℕ) : Type 0 where
  pub octets : List ℕ
  pub headings : List Heading
  pub some : AllStand scope mode octets headings ⊎ AreListed scope mode octets scope.from 0 headings
  pub lines : AreLines scope headings text

-- each is a title or a text
abbrev pub AreWhole : Scope → Mode → List (List ℕ) → Type 0
AreWhole scope mode [] = Unit {0}
AreWhole scope mode (t ∷ ts) = (AnyTitle t ⊎ IsText scope mode t) × AreWhole scope mode ts

abbrev pub AreParts : Scope → Mode → List (List ℕ) → Type 0
AreParts scope mode [] = Unit {0}
AreParts scope mode (t ∷ ts) = (AnyTitle t ⊎ IsTextInPart scope mode t) × AreParts scope mode ts

abbrev pub joined : List (List ℕ) → List ℕ
joined [] = []
joined (t ∷ ts) = t ++ joined ts

-- titles and texts were written
pub record AllWritten (scope : Scope) (mode : Mode) (old new : Option (List ℕ)) : Type 0 where
  pub texts : List (List ℕ)
  pub are : AreWhole scope mode texts
  pub appends : Appends old new (joined texts)

-- titles, and texts in part
pub record SomeWritten (scope : Scope) (mode : Mode) (old new : Option (List ℕ)) : Type 0 where
  pub texts : List (List ℕ)
  pub are : AreParts scope mode texts
  pub appends : Appends old new (joined texts)

-- a front of these
pub record CutWritten (scope : Scope) (mode : Mode) (old new : Option (List ℕ)) : Type 0 where
  pub texts : List (List ℕ)
  pub are : AreParts scope mode texts
  pub appends : AppendsFront old new (joined texts)

-- what a status says of what was written
pub record IsBound (scope : Scope) (mode : Mode) (old new : Option (List ℕ)) (s : Status) : Type 0 where
  pub written : s ≡ status.Done → AllWritten scope mode old new
  pub some : s ≢ status.Failed → SomeWritten scope mode old new
  pub cut : CutWritten scope mode old new

-- ---- blocks of text

-- a block was listed whole, and behind its title
abbrev pub BlockListed : Request → Block → Option (List ℕ) → Option (List ℕ) → Type 0
BlockListed request block old new = (v : List ℕ) × HasOctets block v × IsWhole request.scope request.mode v old new

pub record BlockTitled (request : Request) (first : Bool) (block : Block) (old new : Option (List ℕ)) : Type 0 where
  pub mid : Option (List ℕ)
  pub titled : Titled first old mid
  pub listed : BlockListed request block mid new

-- each block that begins in the octets was, one after the other
pub data BlocksListed (request : Request) : Bool → List ℕ → Option (List ℕ) → Option (List ℕ) → Type 0 where
  none : {first : Bool} {octets : List ℕ} {old new : Option (List ℕ)} → HasNoBlock octets → Keeps old new
      → BlocksListed request first octets old new
  more : {first : Bool} {octets : List ℕ} {old new : Option (List ℕ)} (block : Block) (mid : Option (List ℕ)) → IsNext octets block
      → BlockTitled request first block old mid → BlocksListed request false block.rest.now mid new
      → BlocksListed request first octets old new

-- ---- files

-- all lines of octets were written, by what they are in this form
pub data IsInput (request : Request) (octets : List ℕ) (old new : Option (List ℕ)) : Type 0 where
  blocks : HasBlocks request.form octets → (block : Block) → IsNext octets block → BlocksListed request true octets old new
      → IsInput request octets old new
  one : HasNoBlocks request.form octets → (v : List ℕ) → IsReadAs request.mode request.form octets v
      → IsWhole request.scope request.mode v old new
      → IsInput request octets old new

-- a file was read, and listed behind a title, or without one if it is the only file
abbrev pub IsOpening : Bool → Bool → Option (List ℕ) → Option (List ℕ) → Type 0
IsOpening true first old new = Keeps old new
IsOpening false first old new = Titled first old new

abbrev pub IsFile : Request → Bool → Bool → Input → Option (List ℕ) → Option (List ℕ) → Type 0
IsFile request only first input old new = MatchResult input.octets
    (λ v. (mid : Option (List ℕ)) × IsOpening only first old mid × IsInput request v.items mid new) (λ e. ⊥)

-- all files were, one after the other
abbrev pub FilesListed : Request → Bool → Bool → List Input → Option (List ℕ) → Option (List ℕ) → Type 0
FilesListed request only first [] old new = Keeps old new
FilesListed request only first (i ∷ is) old new =
    (mid : Option (List ℕ)) × IsFile request only first i old mid × FilesListed request only false is mid new

-- ---- the contents octets of one value

-- octets are those of the first block of a file's, or what these are read as
pub data IsFirst (request : Request) (octets v : List ℕ) : Type 0 where
  block : HasBlocks request.form octets → (block : Block) → IsNext octets block → HasOctets block v → IsFirst request octets v
  one : HasNoBlocks request.form octets → IsReadAs request.mode request.form octets v → IsFirst request octets v

-- the contents octets of the value at an offset of octets were written
pub record ValueWritten (request : Request) (at : ℕ) (octets : List ℕ) (old new : Option (List ℕ)) : Type 0 where
  pub contents : List ℕ
  pub has : HasContents (record request.scope { from = 0 }) request.mode octets at contents
  pub appends : Appends old new contents

abbrev pub IsValueOf : Request → ℕ → List ℕ → Option (List ℕ) → Option (List ℕ) → Type 0
IsValueOf request at octets old new = (v : List ℕ) × IsFirst request octets v × ValueWritten request at v old new

-- of the first file
abbrev pub FirstWritten : Request → ℕ → List Input → Option (List ℕ) → Option (List ℕ) → Type 0
FirstWritten request at [] old new = Keeps old new
FirstWritten request at (i ∷ is) old new = MatchResult i.octets (λ v. IsValueOf request at v.items old new) (λ e. ⊥)
