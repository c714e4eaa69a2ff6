-- What the calls of encoders return and write, by what the encoders mean.
use Rattle.std.specs.Prelude.{◌≡◌, ◌≢◌, ℕ, List, [], ◌++◌, Option, Bool, true, false, length, Result, Ok, Err, None, Some, ◌⊎◌, ◌^◌, ◌<◌}
use Rattle.std.specs.Prelude.{◌≤◌}
use Rattle.std.specs.Borrow.{MutBor}
use Rattle.std.specs.Io.KnownBytes.{Appends, Keeps}
use denote.Triple.Both.{Both}
use Rattle.bcder.specs.declared.{encode.error.EncodeError.EncodeError, encode.error.WriteError.WriteError, encode.slot.Failed.Failed}
use Rattle.bcder.specs.declared.{length.Length.Length, length.Length.TheVariants.Definite}
use Rattle.bcder.specs.declared.encode.error.EncodeError.TheVariants.{NoMemory, EndOfValueTag, LengthTooLarge}
use Rattle.bcder.specs.declared.encode.error.WriteError.TheVariants.{Refused, Target}
use Rattle.bcder.specs.x690.Identifier.{Tag, IsValueTag, end_of_contents}
use Rattle.bcder.specs.x690.Octets.{header, definite, length_octets, fits_length}
use Rattle.bcder.specs.calls.Meaning.{Encoded, Meaning, ContentsMeaning, IsOne}

-- the known octets grew by a prefix of w
pub record AppendsFront (old new : Option (List ℕ)) (w : List ℕ) : Type 0 where
  pub front : List ℕ
  pub rest : List ℕ
  pub appends : Appends old new front
  pub whole : w ≡ front ++ rest

-- the known octets grew by a proper prefix of w
pub record AppendsShorter (old new : Option (List ℕ)) (w : List ℕ) : Type 0 where
  pub front : List ℕ
  pub rest : List ℕ
  pub appends : Appends old new front
  pub whole : w ≡ front ++ rest
  pub shorter : rest ≢ []

module _ {W : Type 0} (contents : W → Option (List ℕ)) (target : Both (MutBor W) (MutBor W)) where
  -- w was appended
  abbrev pub Appended : List ℕ → Type 0
  Appended w = Appends (contents target.entry.now) (contents target.exit.now) w

  -- a proper prefix of w was appended
  abbrev pub AppendedShorter : List ℕ → Type 0
  AppendedShorter w = AppendsShorter (contents target.entry.now) (contents target.exit.now) w

-- ---- refusals and sizes

-- e is the refusal that is meant, or out of memory if memory may run out
pub record RefusesBy {A : Type 0} (M : Result A EncodeError → Type 0) (lacks : Type 0) (e : EncodeError) : Type 0 where
  pub meant : e ≢ NoMemory → M (Err e)
  pub lacking : e ≡ NoMemory → lacks

-- r is the size of what is meant, or its refusal
abbrev pub TellsSize : {A : Type 0} → (A → List ℕ) → (Result A EncodeError → Type 0) → Type 0 → Result ℕ EncodeError → Type 0
TellsSize octets M lacks (Ok n) = (a : _) × M (Ok a) × (n ≡ length (octets a))
TellsSize octets M lacks (Err e) = RefusesBy M lacks e

abbrev pub SizeOfValues : (Meaning → Type 0) → Type 0 → Result ℕ EncodeError → Type 0
SizeOfValues M lacks r = TellsSize (λ (e : Encoded). e.octets) M lacks r

abbrev pub SizeOfContents : (ContentsMeaning → Type 0) → Type 0 → Result ℕ EncodeError → Type 0
SizeOfContents M lacks r = TellsSize (λ w. w) M lacks r

-- n contents octets are meant
abbrev pub HasContents : (ContentsMeaning → Type 0) → ℕ → Type 0
HasContents M n = (w : List ℕ) × M (Ok w) × (n ≡ length w)

-- r is the sum of the sizes of what is meant, if it fits `usize`, or the refusal
abbrev pub TellsSum : (Meaning → Type 0) → Type 0 → Result (Option ℕ) EncodeError → Type 0
TellsSum M lacks (Ok (Some n)) = (e : Encoded) × M (Ok e) × (n ≡ length e.octets)
TellsSum M lacks (Ok None) = (e : Encoded) × M (Ok e) × (2 ^ 64 ≤ length e.octets)
TellsSum M lacks (Err e) = RefusesBy M lacks e

-- what is meant is not a refusal
abbrev pub HasEncoding : (Meaning → Type 0) → Type 0
HasEncoding M = (e : Encoded) × M (Ok e)

-- ---- writing

-- the result of a step, with the error that is in its slot
abbrev pub into_result : Result (Unit {0}) Failed → WriteError → Result (Unit {0}) WriteError
into_result (Ok u) why = Ok u
into_result (Err f) why = Err why

-- what was written of w: all of it; a proper prefix, if the target failed; a prefix, if memory ran out
abbrev pub DoneOf : Type 0 → List ℕ → Option (List ℕ) → Option (List ℕ) → Result (Unit {0}) WriteError → Type 0
DoneOf lacks w old new (Ok u) = Appends old new w
DoneOf lacks w old new (Err (Target e)) = AppendsShorter old new w
DoneOf lacks w old new (Err (Refused e)) = (e ≡ NoMemory) × lacks × AppendsFront old new w

pub record WroteOf (lacks : Type 0) (w : List ℕ) (old new : Option (List ℕ)) (r : Result (Unit {0}) WriteError) : Type 0 where
  pub done : DoneOf lacks w old new r

-- r says how the writing of what is meant went: it is octets, and they were written; or it was refused, and nothing was written
pub record Writes {A : Type 0} (octets : A → List ℕ) (M : Result A EncodeError → Type 0) (lacks : Type 0) (old new : Option (List ℕ))
    (r : Result (Unit {0}) WriteError) : Type 0 where
  pub went : ((a : A) × M (Ok a) × WroteOf lacks (octets a) old new r)
      ⊎ ((e : EncodeError) × (r ≡ Err (Refused e)) × RefusesBy M lacks e × Keeps old new)

-- r says how the writing of what is meant went, if that is known to be no refusal
abbrev pub WritesEncoding : (Meaning → Type 0) → Type 0 → Option (List ℕ) → Option (List ℕ) → Result (Unit {0}) WriteError → Type 0
WritesEncoding M lacks old new r = (e : Encoded) → M (Ok e) → WroteOf lacks e.octets old new r

-- ---- over the target as a whole
module _ {W : Type 0} (contents : W → Option (List ℕ)) (target : Both (MutBor W) (MutBor W)) where
  abbrev pub WroteOctets : List ℕ → Result (Unit {0}) WriteError → Type 0
  WroteOctets w r = WroteOf ⊥ w (contents target.entry.now) (contents target.exit.now) r

  abbrev pub WritesContents : (ContentsMeaning → Type 0) → Type 0 → Result (Unit {0}) WriteError → Type 0
  WritesContents M lacks r = Writes (λ w. w) M lacks (contents target.entry.now) (contents target.exit.now) r

  abbrev pub WritesParts : (Meaning → Type 0) → Type 0 → Result (Unit {0}) WriteError → Type 0
  WritesParts M lacks r = WritesEncoding M lacks (contents target.entry.now) (contents target.exit.now) r

  -- r says how the writing went, for a relation that holds of at most one meaning
  abbrev pub WritesKnown : (Meaning → Type 0) → Type 0 → Result (Unit {0}) WriteError → Type 0
  WritesKnown M lacks r = IsOne M → WritesEncoding M lacks (contents target.entry.now) (contents target.exit.now) r

  -- r says how the writing of a primitive value with these contents octets went
  abbrev pub WritesPrimitive : Tag → (ContentsMeaning → Type 0) → Type 0 → Result (Unit {0}) WriteError → Type 0
  WritesPrimitive t M lacks r = IsOne M → (w : List ℕ) → M (Ok w)
      → WroteOf lacks (definite t false w) (contents target.entry.now) (contents target.exit.now) r

-- ---- in memory

-- what is meant is octets, at least one
abbrev pub MeansOctets : {A : Type 0} → (A → List ℕ) → (Result A EncodeError → Type 0) → Type 0
MeansOctets octets M = (a : _) × M (Ok a) × (octets a ≢ [])

-- e is the refusal that is meant; or out of memory, for octets that are meant, or if memory may run out before they are known
abbrev pub RefusesToKeep : {A : Type 0} → (A → List ℕ) → (Result A EncodeError → Type 0) → Type 0 → EncodeError → Type 0
RefusesToKeep octets M lacks e = RefusesBy M (MeansOctets octets M ⊎ lacks) e

-- r is what is meant, or says why it is not kept
abbrev pub GathersContents : (ContentsMeaning → Type 0) → Type 0 → Result (List ℕ) EncodeError → Type 0
GathersContents M lacks (Ok w) = M (Ok w)
GathersContents M lacks (Err e) = RefusesToKeep (λ w. w) M lacks e

-- ---- lengths and headers alone

-- the octets of a length; refused if it does not fit in four octets
abbrev pub LengthMeans : Length → ContentsMeaning → Type 0
LengthMeans len (Ok w) = (fits_length len ≡ true) × (w ≡ length_octets len)
LengthMeans len (Err e) = (fits_length len ≡ false) × (e ≡ LengthTooLarge)

-- a value may have a header with this tag and number of contents octets
abbrev pub MayHaveHeader : Tag → ℕ → Type 0
MayHaveHeader t n = IsValueTag t × (n < 2 ^ 32)

-- why no value has such a header: its tag, or otherwise its length
abbrev pub RefusesValueHeader : Tag → ℕ → EncodeError → Type 0
RefusesValueHeader t n e =
    ((t ≡ end_of_contents) × (e ≡ EndOfValueTag))
    ⊎ (IsValueTag t × (2 ^ 32 ≤ n) × (e ≡ LengthTooLarge))

-- the octets of a header for n contents octets
abbrev pub HeaderMeans : Tag → Bool → ℕ → ContentsMeaning → Type 0
HeaderMeans t form n (Ok w) = MayHaveHeader t n × (w ≡ header t form (Definite n))
HeaderMeans t form n (Err e) = RefusesValueHeader t n e
