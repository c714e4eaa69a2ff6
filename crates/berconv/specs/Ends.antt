-- How a run ends over octets that were read.
use Rattle.std.specs.Prelude.{◌≡◌, ◌⊎◌, ℕ, Bool, true, false, List, [], ◌∷◌, ◌++◌, Option, Some, None, MatchResult, codes, ⊤}
use Rattle.std.specs.Io.KnownBytes.{Appends, Keeps}
use denote.Ref.{Bor}
use Rattle.bcder.specs.declared.mode.Mode.{Mode}
use Rattle.bcder.specs.declared.mode.Mode.TheVariants.{Ber, Cer, Der}
use Rattle.bcder.specs.calls.Captured.{AreWhole}
use Rattle.bcder.specs.calls.Encoders.{AppendsFront}
use Rattle.cli.specs.declared.files.Input.{Input}
use Rattle.cli.specs.declared.pem.Block.{Block}
use Rattle.cli.specs.declared.pem.BlockError.{BlockError}
use Rattle.cli.specs.declared.status.Status.{Status}
use Rattle.cli.specs.declared.status.Status.TheVariants as status
use Rattle.cli.specs.Armor.{block_of}
use Rattle.cli.specs.Pem.{AreBlocks, HasBlocks, HasNoBlock, HasNoBlocks, HasNoOctets, HasOctets, IsNext, StandBefore}
use Rattle.cli.specs.Spelled.{IsReadAs, Misspells}
use Rattle.encodings.specs.declared.checked.Checked.{Checked}
use Rattle.encodings.specs.Conversion.{IsConversion}
use Rattle.encodings.specs.Sets.{IsSorting}
use Rattle.encodings.specs.Values.{AreNoValues, StopsAfter}
use Rattle.berconv.specs.declared.refusal.Refusal.{Refusal}
use Rattle.berconv.specs.declared.refusal.Refusal.TheVariants.{NoValues, NotConverted, NoMemory, NoBlock}
use Rattle.berconv.specs.declared.refusal.Refusal.TheVariants.{Unended, OtherLabel, Headers, NotBase64, Misspelled}
use Rattle.berconv.specs.declared.request.Request.{Request}
use Rattle.berconv.specs.Refusals.{RefusedWith, refusal_of, status_of}

-- ---- what is written

-- octets as they are, or as a block of text with a label
abbrev pub text_of : Option (Bor (List ℕ)) → List ℕ → List ℕ
text_of None w = w
text_of (Some label) w = block_of label.now w

-- values in CER and DER with those inside each SET in order, if that is wanted
abbrev pub IsInOrder : Bool → Mode → List ℕ → List ℕ → Type 0
IsInOrder false to v w = w ≡ v
IsInOrder true Ber v w = w ≡ v
IsInOrder true Cer v w = IsSorting Cer v w
IsInOrder true Der v w = IsSorting Der v w

-- octets in other rules
abbrev pub IsConverted : Request → List ℕ → List ℕ → Type 0
IsConverted r octets w = (v : List ℕ) × IsConversion r.from r.to octets v × IsInOrder r.sorts r.to v w

-- what is written of octets was appended
abbrev pub AppendsConversion : Request → List ℕ → List ℕ → List ℕ → Type 0
AppendsConversion r octets old new = (w : List ℕ) × IsConverted r octets w × (new ≡ old ++ text_of r.pem w)

-- what is written of each of these was appended, one after the other
abbrev pub AppendsConversions : Request → List (List ℕ) → List ℕ → List ℕ → Type 0
AppendsConversions r [] old new = new ≡ old
AppendsConversions r (v ∷ vs) old new = (mid : List ℕ) × AppendsConversion r v old mid × AppendsConversions r vs mid new

-- ---- why octets aren't converted

-- they are no values, and a walk over them stops there; they are, and have no conversion; or memory ran out
abbrev pub IsRefused : Mode → Mode → List ℕ → Refusal → Type 0
IsRefused from to octets (NoValues at why) = AreNoValues from octets × ((c : Checked) × (c.at ≡ at) × StopsAfter from octets c why)
IsRefused from to octets NotConverted = AreWhole from octets × ((w : List ℕ) → IsConversion from to octets w → ⊥)
IsRefused from to octets NoMemory = ⊤
IsRefused from to octets NoBlock = ⊥
IsRefused from to octets Unended = ⊥
IsRefused from to octets OtherLabel = ⊥
IsRefused from to octets Headers = ⊥
IsRefused from to octets NotBase64 = ⊥
IsRefused from to octets Misspelled = ⊥

-- a block isn't converted: it carries no octets, or they are refused
abbrev pub IsRefusedBlock : Request → Block → Refusal → Type 0
IsRefusedBlock r b e =
    ((x : BlockError) × HasNoOctets b x × (e ≡ refusal_of x)) ⊎ ((v : List ℕ) × HasOctets b v × IsRefused r.from r.to v e)

-- a text with blocks isn't: it has none, or one isn't, behind others
abbrev pub IsUnconverted : Request → List ℕ → Refusal → Type 0
IsUnconverted r text e =
    (HasNoBlock text × (e ≡ NoBlock))
    ⊎ ((vs : List (List ℕ)) × (rest : List ℕ) × (b : Block) × StandBefore rest text vs × IsNext rest b × IsRefusedBlock r b e)

-- a text without blocks isn't: it isn't in the form that is asked for, or what it is read as is refused; or memory ran out
abbrev pub IsRefusedAlone : Request → List ℕ → Refusal → Type 0
IsRefusedAlone r text e =
    (Misspells r.form text × (e ≡ Misspelled)) ⊎ (e ≡ NoMemory)
    ⊎ ((v : List ℕ) × IsReadAs r.from r.form text v × IsRefused r.from r.to v e)

-- ---- runs

-- octets were written, or a prefix of them before the target failed, which was told
pub data Puts (w : List ℕ) (out_old out_new err_old err_new : Option (List ℕ)) (s : Status) : Type 0 where
  all : s ≡ status.Done → Appends out_old out_new w → Keeps err_old err_new → Puts w out_old out_new err_old err_new s
  in_part : s ≡ status.Failed → AppendsFront out_old out_new w
      → AppendsFront err_old err_new (codes "berconv: the output can't be written\n")
      → Puts w out_old out_new err_old err_new s

-- nothing was written, and it was told why
pub record Refuses (r : Refusal) (out_old out_new err_old err_new : Option (List ℕ)) (s : Status) : Type 0 where
  pub status : s ≡ status_of r
  pub nothing : Keeps out_old out_new
  pub block : ℕ
  pub told : RefusedWith block r err_old err_new

-- the octets of the blocks were converted, or those that the input is or spells, and what is written of them was put; or some are
-- refused, and nothing was
pub data Ends (r : Request) (input : List ℕ) (out_old out_new err_old err_new : Option (List ℕ)) (s : Status) : Type 0 where
  in_blocks : HasBlocks r.form input → (vs : List (List ℕ)) → AreBlocks input vs → (text : List ℕ) → AppendsConversions r vs [] text
      → Puts text out_old out_new err_old err_new s → Ends r input out_old out_new err_old err_new s
  alone : HasNoBlocks r.form input → (v : List ℕ) → IsReadAs r.from r.form input v → (text : List ℕ) → AppendsConversion r v [] text
      → Puts text out_old out_new err_old err_new s → Ends r input out_old out_new err_old err_new s
  no_blocks : HasBlocks r.form input → (e : Refusal) → IsUnconverted r input e → Refuses e out_old out_new err_old err_new s
      → Ends r input out_old out_new err_old err_new s
  refused : HasNoBlocks r.form input → (e : Refusal) → IsRefusedAlone r input e → Refuses e out_old out_new err_old err_new s
      → Ends r input out_old out_new err_old err_new s

-- a file was read, and it ended so; or it wasn't, and nothing was written
abbrev pub Runs : Request → Input → Option (List ℕ) → Option (List ℕ) → Option (List ℕ) → Option (List ℕ) → Status → Type 0
Runs r input out_old out_new err_old err_new s = MatchResult input.octets
    (λ v. Ends r v.items out_old out_new err_old err_new s) (λ e. (s ≡ status.Unread) × Keeps out_old out_new)
