-- What encoders mean of optional values, of one of several, of the items of a slice through a closure, and of an iterator.
use Rattle.std.specs.Prelude.{Option, None, Some, ⊤, ℕ, List, ◌≡◌, ◌⊎◌, All, [], ◌∷◌, Ok, Err}
use Rattle.std.specs.Iterator.{Count, IsFinite, Yields}
use denote.Ref.{Bor}
use denote.Param.Members.{Shared}
use Rattle.bcder.specs.declared.{encode.values.choice.Choice2.Choice2, encode.values.choice.Choice3.Choice3, mode.Mode.Mode}
use Rattle.bcder.specs.declared.encode.values.choice.Choice2.TheVariants as two
use Rattle.bcder.specs.declared.encode.values.choice.Choice3.TheVariants as three
use Rattle.bcder.specs.calls.Meaning.{Meaning, NoValues, EachOf}
use Rattle.bcder.specs.calls.Noted.{ReadsNone}

-- ---- optional values

abbrev pub OptionMeans : {X : Type 0} → (X → Meaning → Type 0) → Option X → Meaning → Type 0
OptionMeans M (Some x) m = M x m
OptionMeans M None m = NoValues m

abbrev pub OptionLacks : {X : Type 0} → (X → Type 0) → Option X → Type 0
OptionLacks P (Some x) = P x
OptionLacks P None = ⊥

abbrev pub OptionReads : {X : Type 0} → (X → List ℕ → List ℕ → Type 0) → Option X → List ℕ → List ℕ → Type 0
OptionReads R (Some x) = R x
OptionReads R None = ReadsNone

abbrev pub OptionCan : {X : Type 0} → (X → Type 0) → Option X → Type 0
OptionCan P (Some x) = P x
OptionCan P None = ⊤

-- ---- one of two

abbrev pub EitherHolds : {L R : Type 0} → (L → Type 0) → (R → Type 0) → Choice2 L R → Type 0
EitherHolds P Q (two.One x) = P x
EitherHolds P Q (two.Two y) = Q y

abbrev pub EitherMeans : {L R : Type 0} → (L → Meaning → Type 0) → (R → Meaning → Type 0) → Choice2 L R → Meaning → Type 0
EitherMeans M N c m = EitherHolds (λ x. M x m) (λ y. N y m) c

abbrev pub EitherReads : {L R : Type 0} → (L → List ℕ → List ℕ → Type 0) → (R → List ℕ → List ℕ → Type 0) → Choice2 L R
    → List ℕ → List ℕ → Type 0
EitherReads P Q c old new = EitherHolds (λ x. P x old new) (λ y. Q y old new) c

-- ---- one of three

abbrev pub AnyHolds : {L C R : Type 0} → (L → Type 0) → (C → Type 0) → (R → Type 0) → Choice3 L C R → Type 0
AnyHolds P Q S (three.One x) = P x
AnyHolds P Q S (three.Two y) = Q y
AnyHolds P Q S (three.Three z) = S z

abbrev pub AnyMeans : {L C R : Type 0} → (L → Meaning → Type 0) → (C → Meaning → Type 0) → (R → Meaning → Type 0)
    → Choice3 L C R → Meaning → Type 0
AnyMeans M N O c m = AnyHolds (λ x. M x m) (λ y. N y m) (λ z. O z m) c

abbrev pub AnyReads : {L C R : Type 0} → (L → List ℕ → List ℕ → Type 0) → (C → List ℕ → List ℕ → Type 0) → (R → List ℕ → List ℕ → Type 0)
    → Choice3 L C R → List ℕ → List ℕ → Type 0
AnyReads P Q S c old new = AnyHolds (λ x. P x old new) (λ y. Q y old new) (λ z. S z old new) c

-- ---- items of a slice, through a closure

-- whatever v means, w means
pub record SameMeaning {V : Type 0} (means : V → Mode → Meaning → Type 0) (v w : V) : Type 0 where
  pub same : (mode : Mode) (m : Meaning) → means v mode m → means w mode m

module _ {F U V : Type 0} (g : Shared F (Bor U × Unit {0}) V) (f : F) where
  -- the closure may be called on a reference to u
  abbrev pub TakesItem : U → Type 0
  TakesItem u = (p : Bor U) → p.now ≡ u → g.pre f (p, tt)

  -- the closure may give v for u
  pub record Gives (u : U) (v : V) : Type 0 where
    pub shown : Bor U
    pub shows : shown.now ≡ u
    pub met : g.post f (shown, tt) v

  -- what the closure gives for u may be encoded
  abbrev pub GivesEncodable : (V → Type 0) → U → Type 0
  GivesEncodable can u = (v : V) (p : Bor U) → p.now ≡ u → g.post f (p, tt) v → can v

  -- all that the closure gives for u means the same
  abbrev pub GivesOne : (V → Mode → Meaning → Type 0) → U → Type 0
  GivesOne means u = (v w : V) (p q : Bor U) → p.now ≡ u → q.now ≡ u → g.post f (p, tt) v → g.post f (q, tt) w
      → (v ≡ w) ⊎ SameMeaning means v w

  -- what is required of a closure for u: it may be called, and gives one meaning, of something that may be encoded
  abbrev pub MayMap : (V → Type 0) → (V → Mode → Meaning → Type 0) → U → Type 0
  MayMap can means u = TakesItem u × GivesEncodable can u × GivesOne means u

  -- what u means: what the closure gives for it
  pub record ItemMeans (means : V → Mode → Meaning → Type 0) (mode : Mode) (u : U) (m : Meaning) : Type 0 where
    pub value : V
    pub given : Gives u value
    pub meant : means value mode m

  -- when memory may run out for u
  pub record ItemLacks (may_lack : V → Mode → Type 0) (mode : Mode) (u : U) : Type 0 where
    pub value : V
    pub given : Gives u value
    pub lacks : may_lack value mode

-- ---- items of an iterator

-- y and z mean the same
abbrev pub MeanSame : {A : Type 0} → (A → Mode → Meaning → Type 0) → A → A → Type 0
MeanSame means y z = (z ≡ y) ⊎ (SameMeaning means z y × SameMeaning means y z)

module _ {T I A : Type 0} (is_clone : T → T → Type 0) (gives : T → I → Type 0) (steps : I → Option A → I → Type 0) where
  -- a clone of x has given xs so far
  pub record Begins (x : T) (xs : List A) : Type 0 where
    pub copy : T
    pub cloned : is_clone x copy
    pub from : I
    pub made : gives copy from
    pub to : I
    pub ran : Yields steps from xs to

  -- a clone of x gave xs, and then no more
  pub record Lists (x : T) (xs : List A) : Type 0 where
    pub begins : Begins x xs
    pub left : I
    pub ends : steps begins.to None left

  -- what the items of a clone mean, one after the other
  abbrev pub RunsMean : (A → Meaning → Type 0) → T → Meaning → Type 0
  RunsMean M x (Ok z) = (xs : List A) × Lists x xs × EachOf M xs (Ok z)
  RunsMean M x (Err e) = (xs : List A) × Begins x xs × EachOf M xs (Err e)

-- a run over the items of a clone gives one for which memory may run out
pub record GivesLacking {T I A : Type 0} (is_clone : T → T → Type 0) (gives : T → I → Type 0) (steps : I → Option A → I → Type 0)
    (lacks : A → Type 0) (x : T) : Type 0 where
  pub before : List A
  pub begins : Begins is_clone gives steps x before
  pub item : A
  pub left : I
  pub gives_item : steps begins.to (Some item) left
  pub may : lacks item

-- when memory may run out while the items of a clone are gone over: the clone may fail, or memory may run out for an item that a run gives
abbrev pub RunsLack : {T I A : Type 0} → (T → T → Type 0) → (T → Type 0) → (T → I → Type 0) → (I → Option A → I → Type 0)
    → (A → Type 0) → T → Type 0
RunsLack is_clone is_infallible gives steps lacks x = (is_infallible x → ⊥) ⊎ GivesLacking is_clone gives steps lacks x

module _ {I A : Type 0} (steps : I → Option A → I → Type 0) (can : A → Type 0) (means : A → Mode → Meaning → Type 0) where
  -- each run from s gives items that may be encoded and mean what the items of ys mean
  abbrev pub AlwaysGives : I → List A → Type 0
  AlwaysGives s [] = (x : A) (t : I) → steps s (Some x) t → ⊥
  AlwaysGives s (y ∷ ys) =
      ((t : I) → steps s None t → ⊥) × ((x : A) (t : I) → steps s (Some x) t → (can x × MeanSame means y x) × AlwaysGives t ys)

-- what is required of an iterator: every clone of x gives the same finite list of what may be encoded
pub record GivesOneList {T I A : Type 0} (is_clone : T → T → Type 0) (gives : T → I → Type 0) (steps : I → Option A → I → Type 0)
    (can_next : I → Type 0) (left : I → Count) (can : A → Type 0) (means : A → Mode → Meaning → Type 0) (x : T) : Type 0 where
  pub items : List A
  pub all_can : All can items
  pub may_call : (t : T) (i : I) → is_clone x t → gives t i → can_next i × IsFinite (left i)
  pub same : (t : T) (i : I) → is_clone x t → gives t i → AlwaysGives steps can means i items
