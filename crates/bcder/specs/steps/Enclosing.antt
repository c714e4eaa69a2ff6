-- What private steps of the encoders of one value return.
use Rattle.std.specs.Prelude.{◌≡◌, ℕ, ◌^◌, ◌<◌, true, false, List, [], ◌∷◌, length, Option, Some, None, Result, Ok, Err}
use Rattle.std.specs.Borrow.{MutBor}
use denote.Triple.Both.{Both}
use Rattle.bcder.specs.declared.encode.error.EncodeError.{EncodeError}
use Rattle.bcder.specs.declared.encode.error.WriteError.{WriteError}
use Rattle.bcder.specs.declared.length.Length.TheVariants.{Definite}
use Rattle.bcder.specs.declared.mode.Mode.{Mode}
use Rattle.bcder.specs.declared.mode.Mode.TheVariants.{Cer}
use Rattle.bcder.specs.x690.Identifier.{Tag, IsValueTag}
use Rattle.bcder.specs.x690.Octets.{fits_length, constructed_length, closing, enclosed, enclosed_size}
use Rattle.bcder.specs.calls.Meaning.{Encoded, Meaning, ContentsMeaning, ValueMeans, primitive_meaning}
use Rattle.bcder.specs.calls.Meaning.{constructed_meaning, fits_enclosed, enclosed_refusal}
use Rattle.bcder.specs.calls.Encoders.{RefusesBy, WroteOf}

-- r is the size of contents octets that a primitive value may have, or the refusal of that value
abbrev pub ContentsSize : Tag → (ContentsMeaning → Type 0) → Type 0 → Result ℕ EncodeError → Type 0
ContentsSize t M lacks (Ok n) = (w : List ℕ) × M (Ok w) × (n ≡ length w) × (n < 2 ^ 32) × (IsValueTag t)
ContentsSize t M lacks (Err e) = RefusesBy (ValueMeans t (primitive_meaning t) M) lacks e

-- r is the size of a constructed value with n contents octets, or says why there is none
abbrev pub EnclosedSize : Mode → Tag → ℕ → Result ℕ EncodeError → Type 0
EnclosedSize mode t n (Ok size) = (size ≡ enclosed_size mode t n) × (fits_enclosed mode t n ≡ true)
EnclosedSize mode t n (Err e) = (e ≡ enclosed_refusal mode) × (fits_enclosed mode t n ≡ false)

-- r is the size of the contents octets, or the refusal of the whole value
abbrev pub MeasuredInside : Tag → Mode → (Meaning → Type 0) → Type 0 → Result ℕ EncodeError → Type 0
MeasuredInside t mode M lacks (Ok n) = (x : Encoded) × M (Ok x) × (n ≡ length x.octets) × (fits_enclosed mode t n ≡ true) × (IsValueTag t)
MeasuredInside t mode M lacks (Err e) = RefusesBy (ValueMeans t (constructed_meaning t mode) M) lacks e

-- a constructed value with n contents octets can have a definite length, and then nothing follows them (10.1)
abbrev pub TellsLength : Mode → ℕ → Type 0
TellsLength mode n = (constructed_length mode n ≡ Definite n) × (fits_length (Definite n) ≡ true) × (closing mode ≡ [])

-- how the writing went of the value with this size in its header
abbrev pub WritesEnclosed : {W : Type 0} → (W → Option (List ℕ)) → Both (MutBor W) (MutBor W) → Tag → ℕ → Mode → (Meaning → Type 0) → Type 0
    → Result (Unit {0}) WriteError → Type 0
WritesEnclosed contents target t size mode M lacks r =
    (x : Encoded) → M (Ok x) → constructed_length mode size ≡ constructed_length mode (length x.octets)
    → WroteOf lacks (enclosed mode t x.octets) (contents target.entry.now) (contents target.exit.now) r

-- the first of the sizes that are left is taken, if there is one
abbrev pub Takes : List ℕ → Option ℕ → List ℕ → Type 0
Takes old None new = (old ≡ []) × (new ≡ [])
Takes old (Some size) new = old ≡ size ∷ new

-- the size in the header of a constructed value is the first of the sizes that are left, if there is one; in CER it has none
abbrev pub TakesContents : Mode → List ℕ → Option ℕ → List ℕ → Type 0
TakesContents Cer old (Some size) new = new ≡ old
TakesContents Cer old None new = ⊥
TakesContents mode old size new = Takes old size new
