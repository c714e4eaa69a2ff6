-- What comes next in open content, as a table of four rows: one holds, and one only; and what a take returns by the row.
-- Each law is the contract of a function of `src/laws/next.rt`.
use Rattle.std.specs.Borrow.{MutBor}
use Rattle.std.specs.Prelude.{◌≡◌, ◌⊎◌, ℕ, Bool, List, Option, Some, Result, IfOk, IfErr, OnErr, IsOkAnd, IsErrAnd, IsSomeAnd, IsTrue, is_none}
use Rattle.bcder.specs.declared.{decode.content.Constructed.Constructed, decode.error.DecodeError.DecodeError}
use Rattle.bcder.specs.declared.decode.content.State.TheVariants.{Open, Failed}
use Rattle.bcder.specs.x690.Identifier.{Tag}
use Rattle.bcder.specs.calls.Cause.{cause_of, IsRefusal}
use Rattle.bcder.specs.calls.Stream.{Stream}
use Rattle.bcder.specs.calls.Content.{Reading, Asked, any, tagged, HasHeader, IsAtEnd, IsElsewhere, NothingThere, NamesFront}
use Rattle.bcder.specs.calls.Calls.{HasNone, TellsNone, TakesValue, RefusesFront, TakesNext, Takes}
use Rattle.bcder.specs.calls.Views.{of_constructed, before, after}
use Rattle.bcder.specs.laws.Exactly.{Follows}

-- what comes next
pub data Front : Type 0 where
  -- the header of an asked value, whose length fits into what is owed
  value : Front
  -- the end of content, if a value of any tag is asked for
  ends : Front
  -- another tag, no octets, or the end marker, if one of a tag is
  elsewhere : Front
  -- none of these
  broken : Front

-- this comes next in open content
abbrev pub HasFront : Asked → Reading → Front → Type 0
HasFront asked c value = (after : List ℕ) × HasHeader asked c after
HasFront asked c ends = (asked ≡ any) × (after : List ℕ) × IsAtEnd c after
HasFront asked c elsewhere = (t : Tag) × (asked ≡ tagged t) × (after : List ℕ) × IsElsewhere t c after
HasFront asked c broken = NothingThere asked c

-- one of the four comes next, and one only
abbrev pub HasOneFront : Asked → Reading → Type 0
HasOneFront asked c = (f : Front) × HasFront asked c f × ((g : Front) → HasFront asked c g → g ≡ f)

abbrev pub OneFrontComes : {S : Type 0} → (S → Stream) → Type 0
OneFrontComes {S} stream = (asked : Asked) (c : Constructed S) → (of_constructed stream c).state ≡ Open
    → HasOneFront asked (of_constructed stream c)

-- ---- takes

module _ {C T X : Type 0} (view : C → Reading) (post : Tag → MutBor C → Result T (DecodeError X) → MutBor C → Type 0)
    (form : Option Bool) (asked : Asked) where
  -- the asked value was refused, for its form or its content
  abbrev pub RefusesFound : Reading → DecodeError X → Reading → Type 0
  RefusesFound c e d = IsRefusal e × ((after : List ℕ) × (h : HasHeader asked c after) × (form ≡ Some h.form))
      ⊎ RefusesFront cause_of view post asked c e d

  -- neither is there an asked value, nor a reason to return that there is none: the error names the rule that is broken
  abbrev pub RefusesBroken : {R : Type 0} → Reading → Result R (DecodeError X) → Reading → Type 0
  RefusesBroken c r d = IsErrAnd r (λ e. NamesFront asked (cause_of e) c) × (d.state ≡ Failed)

  -- what a take returns that may find no value
  abbrev pub NextAt : Front → Reading → Result (Option T) (DecodeError X) → Reading → Type 0
  NextAt value c r d = IfOk r (λ o. IsSomeAnd o (λ x. TakesValue view post asked c x d)) × IfErr r (λ e. RefusesFound c e d)
      × OnErr r (d.state ≡ Failed)
  NextAt ends c r d = IsOkAnd r (λ o. IsTrue (is_none o)) × HasNone asked c d
  NextAt elsewhere c r d = IsOkAnd r (λ o. IsTrue (is_none o)) × HasNone asked c d
  NextAt broken c r d = RefusesBroken c r d

  -- what a take returns that needs a value
  abbrev pub OneAt : Front → Reading → Result T (DecodeError X) → Reading → Type 0
  OneAt value c r d = IfOk r (λ x. TakesValue view post asked c x d) × IfErr r (λ e. RefusesFound c e d)
      × OnErr r (d.state ≡ Failed)
  OneAt ends c r d = IsErrAnd r (λ e. TellsNone asked e) × HasNone asked c d
  OneAt elsewhere c r d = IsErrAnd r (λ e. TellsNone asked e) × HasNone asked c d
  OneAt broken c r d = RefusesBroken c r d

-- whatever the closure, the form that is refused, and what is asked for: unless the source failed, the row says what is returned
module _ {S C T X F : Type 0} (stream : S → Stream) (post : F → Tag → MutBor C → Result T (DecodeError X) → MutBor C → Type 0) where
  abbrev pub TakesNextByFront : Type 0
  TakesNextByFront = (view : C → Reading) (op : F) (form : Option Bool) (asked : Asked) → Follows stream {T = Option T} {X = X}
      (λ c r. TakesNext view (post op) form asked (before stream c) r (after stream c))
      (λ c r. (before stream c).state ≡ Open → (f : Front) → HasFront asked (before stream c) f
      → NextAt view (post op) form asked f (before stream c) r (after stream c))

  abbrev pub TakesByFront : Type 0
  TakesByFront = (view : C → Reading) (op : F) (form : Option Bool) (asked : Asked) → Follows stream {T = T} {X = X}
      (λ c r. Takes view (post op) form asked (before stream c) r (after stream c))
      (λ c r. (before stream c).state ≡ Open → (f : Front) → HasFront asked (before stream c) f
      → OneAt view (post op) form asked f (before stream c) r (after stream c))
