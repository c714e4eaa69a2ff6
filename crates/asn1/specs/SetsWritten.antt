-- What is written of a SET OF (X.680, 28; X.690, 8.12, 11.6).
use Rattle.std.specs.Prelude.{◌≡◌, ◌≢◌, ◌<◌, ◌≤◌, ◌^◌, ◌⊎◌, ℕ, List, [], ◌∷◌, ◌++◌, length, Ok, Err, Any, IsPermutation}
use Rattle.bcder.specs.declared.mode.Mode.{Mode}
use Rattle.bcder.specs.declared.mode.Mode.TheVariants.{Ber, Cer, Der}
use Rattle.bcder.specs.x690.Encoding.{AreEncodings}
use Rattle.bcder.specs.calls.Meaning.{Encoded, Meaning}
use Rattle.bcder.specs.calls.Meaning.{EachOf, Joined}
use Rattle.bcder.specs.calls.Captured.{Kept}

-- the order of the octets, where nothing comes before something: for encodings, none of which begins with another, that of 11.6
abbrev pub IsUpTo : List ℕ → List ℕ → Type 0
IsUpTo [] w = Unit {0}
IsUpTo (x ∷ v) [] = ⊥
IsUpTo (x ∷ v) (y ∷ w) = (x < y) ⊎ ((x ≡ y) × IsUpTo v w)

-- none comes after the next one
abbrev pub IsUpToFirst : List ℕ → List (List ℕ) → Type 0
IsUpToFirst v [] = Unit {0}
IsUpToFirst v (w ∷ ws) = IsUpTo v w

abbrev pub AreInOrder : List (List ℕ) → Type 0
AreInOrder [] = Unit {0}
AreInOrder (v ∷ vs) = IsUpToFirst v vs × AreInOrder vs

-- one after the other
abbrev pub flat : List (List ℕ) → List ℕ
flat [] = []
flat (v ∷ vs) = v ++ flat vs

-- what is written of each
abbrev pub AreWrittenEach : {T : Type 0} → (T → Meaning → Type 0) → List T → List (List ℕ) → Type 0
AreWrittenEach W [] [] = Unit {0}
AreWrittenEach W [] (v ∷ vs) = ⊥
AreWrittenEach W (x ∷ xs) [] = ⊥
AreWrittenEach W (x ∷ xs) (v ∷ vs) = ((e : Encoded) × W x (Ok e) × (v ≡ e.octets)) × AreWrittenEach W xs vs

-- the octets are those of the items, one after the other in ascending order
pub record AreWrittenInOrder {T : Type 0} (mode : Mode) (W : T → Meaning → Type 0) (xs : List T) (z : Encoded) : Type 0 where
  pub pieces : List (List ℕ)
  pub are : AreWrittenEach W xs pieces
  pub ordered : List (List ℕ)
  pub rearranged : IsPermutation pieces ordered
  pub ascend : AreInOrder ordered
  pub octets : z.octets ≡ flat ordered
  pub encode : AreEncodings mode z.values z.octets
  pub fits : length z.octets < 2 ^ 64

-- the items in CER and DER: in ascending order (X.690, 11.6), or the refusal of one
abbrev pub InOrder : {T : Type 0} → Mode → (T → Meaning → Type 0) → List T → Meaning → Type 0
InOrder mode W xs (Ok z) = AreWrittenInOrder mode W xs z
InOrder mode W xs (Err e) = Joined (EachOf W xs) (Err e)

-- the items as they stand in BER (X.690, 8.12.3), in order in CER and DER
abbrev pub WritesSetOf : {T : Type 0} → Mode → (T → Meaning → Type 0) → List T → Meaning → Type 0
WritesSetOf Ber W xs m = Joined (EachOf W xs) m
WritesSetOf Cer W xs m = InOrder Cer W xs m
WritesSetOf Der W xs m = InOrder Der W xs m

-- ---- as it is done

-- memory may run out for an item, and in CER and DER for putting two or more in order
abbrev pub MayLackForSet : {T : Type 0} → Mode → (T → Type 0) → List T → Type 0
MayLackForSet mode L xs = Any L xs ⊎ ((mode ≢ Ber) × (2 ≤ length xs))

abbrev pub octets_of_each : List Kept → List (List ℕ)
octets_of_each [] = []
octets_of_each (c ∷ cs) = c.octets ∷ octets_of_each cs

abbrev pub AreKeptIn : Mode → List Kept → Type 0
AreKeptIn mode [] = Unit {0}
AreKeptIn mode (c ∷ cs) = (c.mode ≡ mode) × AreKeptIn mode cs

-- kept octets are those of the items, in order
pub record AreKeptInOrder {T : Type 0} (mode : Mode) (W : T → Meaning → Type 0) (xs : List T) (cs : List Kept) : Type 0 where
  pub pieces : List (List ℕ)
  pub are : AreWrittenEach W xs pieces
  pub rearranged : IsPermutation pieces (octets_of_each cs)
  pub ascend : AreInOrder (octets_of_each cs)
  pub in_mode : AreKeptIn mode cs
