-- What is required of a closure that is called on content until it returns `None`, and what its calls did.
use Rattle.std.specs.Prelude.{◌≡◌, ℕ, ◌-◌, ◌^◌, List, length, map, Option, Some, None, Result, Ok, Err}
use Rattle.std.specs.Borrow.{MutBor}
use Rattle.std.specs.List.{FoldsTo}
use Rattle.std.specs.declared.vec.Vec.{Vec}
use Rattle.std.specs.declared.alloc.Global.{Global}
use Rattle.bcder.specs.declared.{decode.content.Constructed.Constructed, decode.error.ContentError.ContentError}
use Rattle.bcder.specs.calls.Cause.{Cause, of_memory, IsOfContent}
use Rattle.bcder.specs.calls.Stream.{Stream}
use Rattle.bcder.specs.calls.Content.{Reading, Moves}
use Rattle.bcder.specs.calls.Views.{of_constructed}

-- the result of a call: `Some` with a value to go on, `None` at the end
abbrev pub Answer : Type 0 → Type 0 → Type 0
Answer T E = Result (Option T) E

-- as many octets are owed as before: none was taken
abbrev pub OwesAsBefore : Option ℕ → Option ℕ → Type 0
OwesAsBefore (Some m) (Some n) = m ≡ n
OwesAsBefore (Some m) None = ⊥
OwesAsBefore None o = ⊥

-- no octet was taken of content up to a limit
abbrev pub TookNothing : Reading → Reading → Type 0
TookNothing c d = OwesAsBefore c.owed d.owed

-- the content that one call got, and what it left of it
pub record Turn (C : Type 0) : Type 0 where
  pub handed : MutBor C
  pub left : MutBor C

-- a call that returned `Some`, with a value
pub record Gift (C T : Type 0) : Type 0 where
  pub turn : Turn C
  pub value : T

-- the values that calls returned, in order
abbrev pub values : {C T : Type 0} → List (Gift C T) → List T
values gifts = map (λ g. g.value) gifts

-- a closure, and the content that is left for its calls
pub record Stage (F : Type 0) : Type 0 where
  pub closure : F
  pub content : Reading

module _ {F C T E : Type 0} (view : C → Reading) (step : F → MutBor C → Answer T E → MutBor C → F → Type 0) where
  -- one call of the closure returned a
  pub record AnswersTurn (p : Stage F) (t : Turn C) (a : Answer T E) (q : Stage F) : Type 0 where
    pub handed_is : view t.handed.now ≡ p.content
    pub left_is : view t.left.now ≡ q.content
    pub called : step p.closure t.handed a t.left q.closure

  -- one call returned `Some`, and the next may follow
  pub record GoesOn (p : Stage F) (g : Gift C T) (q : Stage F) : Type 0 where
    pub answered : AnswersTurn p g.turn (Ok (Some g.value)) q
    pub took : TookNothing p.content q.content → ⊥

  -- calls that returned `Some`, and a last one that returned a and left d
  pub record LastAnswers (f : F) (c : Reading) (a : Answer T E) (d : Reading) : Type 0 where
    pub gifts : List (Gift C T)
    pub before : Stage F
    pub went_on : FoldsTo GoesOn (record { closure = f; content = c }) gifts before
    pub turn : Turn C
    pub after : Stage F
    pub answered : AnswersTurn before turn a after
    pub left : after.content ≡ d

module _ {F C E : Type 0} (why : E → Cause ContentError) (view : C → Reading)
    (step : F → MutBor C → Answer (Unit {0}) E → MutBor C → F → Type 0) where
  -- how the calls of the closure f over content c ended, with the result r and with d left
  pub data Repeats (f : F) (c : Reading) (r : Result (Unit {0}) E) (d : Reading) : Type 0 where
    -- the last call returned `None`
    ended : r ≡ Ok tt → LastAnswers view step f c (Ok None) d → Repeats f c r d
    -- the last call refused, with this error
    refused : (e : E) → r ≡ Err e → LastAnswers view step f c (Err e) d → Repeats f c r d
    -- the last call returned `Some`, and had taken nothing
    stalled : (e : E) → r ≡ Err e → IsOfContent (why e) → (l : LastAnswers view step f c (Ok (Some tt)) d)
        → TookNothing l.before.content d → Repeats f c r d
    -- 2^64 - 1 calls returned `Some`
    endless : (e : E) → r ≡ Err e → IsOfContent (why e) → (gifts : List (Gift C (Unit {0}))) → length gifts ≡ 2 ^ 64 - 1 → (after : Stage F)
        → FoldsTo (GoesOn view step) (record { closure = f; content = c }) gifts after → after.content ≡ d → Repeats f c r d

module _ {F C T E : Type 0} (why : E → Cause ContentError) (view : C → Reading)
    (step : F → MutBor C → Answer T E → MutBor C → F → Type 0) where
  -- how the calls of the closure f over content c ended, if what they return is collected, with the result r and with d left
  pub data Collects (f : F) (c : Reading) (r : Result (Vec T Global) E) (d : Reading) : Type 0 where
    -- the last call returned `None`; the vector holds what those before it returned
    collected : (v : Vec T Global) → r ≡ Ok v → (l : LastAnswers view step f c (Ok None) d) → v.items ≡ values l.gifts → Collects f c r d
    -- the last call refused, with this error
    not_answered : (e : E) → r ≡ Err e → LastAnswers view step f c (Err e) d → Collects f c r d
    -- the last call returned `Some`, and had taken nothing
    not_advanced : (e : E) → r ≡ Err e → IsOfContent (why e) → (x : T) → (l : LastAnswers view step f c (Ok (Some x)) d)
        → TookNothing l.before.content d → Collects f c r d
    -- the last call returned `Some` and had taken something, and memory ran out for its value
    not_kept : (e : E) → r ≡ Err e → why e ≡ of_memory → (x : T) → (l : LastAnswers view step f c (Ok (Some x)) d)
        → (TookNothing l.before.content d → ⊥) → Collects f c r d

-- the closure may be called, in any state, on all that this content can become
abbrev pub MayRepeat : {S F : Type 0} → (S → Stream) → MutBor (Constructed S) → (F → MutBor (Constructed S) → Type 0) → Type 0
MayRepeat {S} {F} stream c pre = (f : F) (p : MutBor (Constructed S))
    → Moves (of_constructed stream c.now) (of_constructed stream p.now) → pre f p

-- whatever the closure leaves is reached by lawful steps from the content that it got
abbrev pub RepeatsLawfully : {S F T E : Type 0} → (S → Stream) → MutBor (Constructed S)
    → (F → MutBor (Constructed S) → Answer T E → MutBor (Constructed S) → F → Type 0) → Type 0
RepeatsLawfully {S} {F} {T} {E} stream c step = (f : F) (p : MutBor (Constructed S)) (a : Answer T E) (q : MutBor (Constructed S)) (g : F)
    → Moves (of_constructed stream c.now) (of_constructed stream p.now) → step f p a q g
    → Moves (of_constructed stream p.now) (of_constructed stream q.now)
