-- Exactly when a value is passed, skipped or captured: a call says what came next, by what it returns; so it returns that
-- whenever this comes next. Each statement is the contract of a function of `src/laws/exactly.rt`.
use Rattle.std.specs.Borrow.{MutBor}
use Rattle.std.specs.Prelude.{◌≡◌, ◌⊎◌, ℕ, ◌<◌, true, List, ◌∷◌, ◌++◌, Option, Result, Err, IsOk, IsOkAnd, IsErrAnd, IsSomeAnd, IsTrue}
use Rattle.std.specs.Prelude.{is_some, is_none}
use denote.Triple.Both.{Both}
use Rattle.bcder.specs.declared.{decode.content.Constructed.Constructed, decode.error.ContentError.ContentError}
use Rattle.bcder.specs.declared.{decode.error.DecodeError.DecodeError}
use Rattle.bcder.specs.declared.decode.content.State.TheVariants.{Open, Ended}
use Rattle.bcder.specs.x690.Tree.{Tree}
use Rattle.bcder.specs.x690.Preorder.{Heading, preorder}
use Rattle.bcder.specs.calls.Cause.{cause_of, of_memory}
use Rattle.bcder.specs.calls.Stream.{Stream, Grew}
use Rattle.bcder.specs.calls.Captured.{Kept}
use Rattle.bcder.specs.calls.Content.{Reading, any, EndsBefore, Refuses}
use Rattle.bcder.specs.calls.Walking.{HasValue, HasValues, HasNoValue, HasNoNext, PassesValue, Steps, Called, SkipsValue, RefusesSkip}
use Rattle.bcder.specs.calls.Walking.{SkippedValueBy, AllBy, RefusesOne, RefusesSkipAll}
use Rattle.bcder.specs.calls.Capturing.{CapturesBy, CapturesValue, CapturesNext, CapturesValues, HasValueOrDeep, HasOthers, HasValuesOrDeep}
use Rattle.bcder.specs.calls.Calls.{NextBy}
use Rattle.bcder.specs.calls.Views.{before, after}

-- ---- what is returned, unless the source failed

-- memory didn't run out
abbrev pub FoundMemory : {T X : Type 0} → Result T (DecodeError X) → Type 0
FoundMemory r = IsErrAnd r (λ e. cause_of e ≡ of_memory) → ⊥

-- if a value comes next, Some, and what follows it is left; at the end, None
pub record AnswersNext {T E : Type 0} (c : Reading) (r : Result (Option T) E) (d : Reading) : Type 0 where
  pub found : (t : Tree) (w after : List ℕ) → HasValue c t w after → IsOkAnd r (λ o. IsTrue (is_some o)) × (d.stream.rest ≡ after)
  pub ended : (after : List ℕ) → EndsBefore c after → IsOkAnd r (λ o. IsTrue (is_none o))

-- f returns Ok at each call along the headings
abbrev pub AnswersAll : {F E : Type 0} → Steps F E → F → List Heading → Type 0
AnswersAll {F} {E} step f hs = (calls more : List Heading) (h : Heading) (q g : F) (x : E) → hs ≡ calls ++ h ∷ more → Called step f calls q
    → step q h.tag h.constructed h.depth (Err x) g → ⊥

-- no constructed value is at a depth of four or more
abbrev pub IsShallow : List Heading → Type 0
IsShallow hs = (calls more : List Heading) (h : Heading) → hs ≡ calls ++ h ∷ more → h.constructed ≡ true → h.depth < 4

-- the closure returns Ok at each heading of the value, and memory was found, or isn't needed for it
abbrev pub MaySkip : {F T X : Type 0} → Steps F ContentError → F → Tree → Result T (DecodeError X) → Type 0
MaySkip step f t r = AnswersAll step f (preorder t 0) × (IsShallow (preorder t 0) ⊎ FoundMemory r)

-- if a value comes next that may be skipped, Some, and what follows it is left; at the end, None
pub record AnswersSkip {F T X : Type 0} (step : Steps F ContentError) (c : Reading) (f : F) (r : Result (Option T) (DecodeError X))
    (d : Reading) : Type 0 where
  pub found : (t : Tree) (w after : List ℕ) → HasValue c t w after → MaySkip step f t r
      → IsOkAnd r (λ o. IsTrue (is_some o)) × (d.stream.rest ≡ after)
  pub ended : (after : List ℕ) → EndsBefore c after → IsOkAnd r (λ o. IsTrue (is_none o))

-- if a value comes next, Some with its octets; at the end, None
pub record AnswersCapture {X : Type 0} (c : Reading) (r : Result (Option Kept) (DecodeError X)) : Type 0 where
  pub found : (t : Tree) (w after : List ℕ) → HasValue c t w after → FoundMemory r → IsOkAnd r (λ o. IsSomeAnd o (λ k. k.octets ≡ w))
  pub ended : (after : List ℕ) → EndsBefore c after → IsOkAnd r (λ o. IsTrue (is_none o))

-- ---- the laws

module _ {S : Type 0} (stream : S → Stream) where
  -- the source didn't fail
  abbrev pub Lasted : Both (MutBor (Constructed S)) (MutBor (Constructed S)) → Type 0
  Lasted c = Grew (before stream c).stream.faults (after stream c).stream.faults → ⊥

  -- content over the source, before and after a call, and its result: unless the source failed, it follows from P that Q
  abbrev pub Follows : {T X : Type 0} → (P Q : Both (MutBor (Constructed S)) (MutBor (Constructed S)) → Result T (DecodeError X) → Type 0)
      → Type 0
  Follows {T} {X} P Q = (c : Both (MutBor (Constructed S)) (MutBor (Constructed S))) (r : Result T (DecodeError X)) → Lasted c → P c r
      → Q c r

  -- a walk passes a value if one comes next
  abbrev pub WalksExactly : Type 0 → Type 0
  WalksExactly X = Follows {T = Option (Unit {0})} {X = X} (λ c r. NextBy any (λ i _ j. PassesValue i j)
      (Refuses cause_of any HasNoNext ⊥) (before stream c) r (after stream c))
      (λ c r. AnswersNext (before stream c) r (after stream c))

  -- so does a call without a closure, if memory was found
  abbrev pub PassesOneExactly : Type 0 → Type 0
  PassesOneExactly X = Follows {T = Option (Unit {0})} {X = X} (λ c r. NextBy any (λ i _ j. PassesValue i j)
      (RefusesOne cause_of) (before stream c) r (after stream c))
      (λ c r. FoundMemory r → AnswersNext (before stream c) r (after stream c))

  -- all values are passed if encodings go on up to the end
  abbrev pub PassesAllExactly : Type 0 → Type 0
  PassesAllExactly X = Follows {T = Unit {0}} {X = X} (λ c r. AllBy (RefusesSkipAll cause_of) (before stream c) r (after stream c))
      (λ c r. FoundMemory r → (before stream c).state ≡ Open → HasValues (before stream c) → IsOk r)

  -- a value is captured if one comes next, whether or not it has to
  abbrev pub CapturesOneExactly : Type 0 → Type 0
  CapturesOneExactly X = Follows {T = Kept} {X = X}
      (λ c r. CapturesBy CapturesValue HasNoValue HasValueOrDeep (before stream c) r (after stream c))
      (λ c r. FoundMemory r → (t : Tree) (w after : List ℕ) → HasValue (before stream c) t w after → IsOkAnd r (λ k. k.octets ≡ w))

  abbrev pub CapturesNextExactly : Type 0 → Type 0
  CapturesNextExactly X = Follows {T = Option Kept} {X = X} (λ c r. CapturesNext (before stream c) r (after stream c))
      (λ c r. AnswersCapture (before stream c) r)

  -- all values are captured if encodings go on up to the end, or the content has ended
  abbrev pub CapturesAllExactly : Type 0 → Type 0
  CapturesAllExactly X = Follows {T = Kept} {X = X}
      (λ c r. CapturesBy CapturesValues HasOthers HasValuesOrDeep (before stream c) r (after stream c)) (λ c r. FoundMemory r
      → (HasValues (before stream c) → (before stream c).state ≡ Open → IsOk r) × ((before stream c).state ≡ Ended → IsOk r))

-- a value is skipped if one comes next that may be, whether or not it has to
module _ {S F : Type 0} (stream : S → Stream) (step : Steps F ContentError) (X : Type 0) where
  abbrev pub SkipsExactly : Type 0
  SkipsExactly = (op : Both (MutBor F) (MutBor F)) → Follows stream {T = Option (Unit {0})} {X = X}
      (λ c r. NextBy any (λ i _ j. SkipsValue step i op.entry.now op.exit.now j)
      (λ i e j. RefusesSkip cause_of step i op.entry.now e op.exit.now j) (before stream c) r (after stream c))
      (λ c r. AnswersSkip step (before stream c) op.entry.now r (after stream c))

  abbrev pub SkipsOneExactly : Type 0
  SkipsOneExactly = (op : Both (MutBor F) (MutBor F)) → Follows stream {T = Unit {0}} {X = X}
      (λ c r. SkippedValueBy step (before stream c) op.entry.now r op.exit.now (after stream c))
      (λ c r. (t : Tree) (w rest : List ℕ) → HasValue (before stream c) t w rest → MaySkip step op.entry.now t r
      → IsOkAnd r (λ _. (after stream c).stream.rest ≡ rest))
