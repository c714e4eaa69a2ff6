-- What private steps of walking over values return and leave.
use Rattle.std.specs.Borrow.{MutBor}
use Rattle.std.specs.Prelude.{◌≡◌, ℕ, ◌≤◌, Bool, false, List, ◌++◌, length, take, Option, Result, IfOk, IfErr, OnOk, OnErr, IsTrue}
use denote.Triple.Both.{Both}
use Rattle.bcder.specs.declared.{decode.content.State.TheVariants.Failed, decode.error.ContentError.ContentError, decode.stop.Stop.Stop}
use Rattle.bcder.specs.declared.{decode.header.Header.Header as CodeHeader, decode.content.Constructed.Constructed}
use Rattle.bcder.specs.x690.Identifier.{Tag, AreOctets}
use Rattle.bcder.specs.x690.Tree.{Tree}
use Rattle.bcder.specs.x690.Encoding.{IsEncoding}
use Rattle.bcder.specs.calls.Stream.{Stream, Grew}
use Rattle.bcder.specs.calls.Cause.{Cause, of_source}
use Rattle.bcder.specs.calls.Views.{of_constructed}
use Rattle.bcder.specs.calls.Content.{Refuses, Reading, any, Moves, IsDone, Resembles}
use Rattle.bcder.specs.calls.Walking.{HasNoNext, PassesValue, RefusesValues}
use Rattle.bcder.specs.calls.Calls.{NextBy}
use Rattle.bcder.specs.steps.StopCause.{stop_cause}
use Rattle.bcder.specs.steps.Inside.{TakesContent}
use Rattle.bcder.specs.steps.Peek.{header_of}
use Rattle.bcder.specs.steps.Entering.{Advances}

-- a parameter of constructed content at entry and at exit
module _ {S : Type 0} (stream : S → Stream) (c : Both (MutBor (Constructed S)) (MutBor (Constructed S))) where
  abbrev pub Between : (Reading → Reading → Type 0) → Type 0
  Between R = R (of_constructed stream c.entry.now) (of_constructed stream c.exit.now)

-- the first n octets were passed, and nothing else changed
pub record PassesOver (c : Reading) (n : ℕ) (d : Reading) : Type 0 where
  pub advances : Advances c d (take n c.stream.rest)
  pub octets : AreOctets c.stream.rest
  pub within : n ≤ length c.stream.rest
  pub no_fault : d.stream.faults ≡ c.stream.faults
  pub state : d.state ≡ c.state
  pub marked : d.marked ≡ c.marked

-- no prefix of the rest is an encoding of a value
pub record NoValue (c : Reading) : Type 0 where
  pub none : (t : Tree) (w after : List ℕ) → IsEncoding c.mode t w → c.stream.rest ≡ w ++ after → ⊥

-- the next value was passed in one go, or nothing was passed; `why` gives the cause of an error
pub record AtOnceBy {E : Type 0} (why : E → Cause ContentError) (c : Reading) (r : Result Bool E) (d : Reading) : Type 0 where
  pub passed : IfOk r (λ b. IsTrue b → PassesValue c d)
  pub same : IfOk r (λ b. b ≡ false → Resembles c d)
  -- the source failed exactly if an error is returned, and content has failed
  pub no_fault : OnOk r (d.stream.faults ≡ c.stream.faults)
  pub fault : IfErr r (λ e. (why e ≡ of_source) × Grew c.stream.faults d.stream.faults)
  pub failed : OnErr r (d.state ≡ Failed)
  pub mode : d.mode ≡ c.mode
  pub marked : d.marked ≡ c.marked

-- content was walked to its end, or not
pub record WalksBy {E : Type 0} (why : E → Cause ContentError) {T : Type 0} (i : Reading) (r : Result T E) (j : Reading) : Type 0 where
  pub moves : Moves i j
  pub marked : OnOk r (j.marked ≡ i.marked)
  pub done : OnOk r (IsDone j)
  pub refused : IfErr r (λ e. RefusesValues why i e j)

abbrev pub itself : Reading → Reading
itself c = c

-- a walk over content as the step of a closure
abbrev pub walked : {T E : Type 0} → (E → Cause ContentError) → Tag → MutBor Reading → Result T E → MutBor Reading → Type 0
walked why t p r q = WalksBy why p.now r q.now

-- a parameter of constructed content at entry and at exit
module _ {S : Type 0} (stream : S → Stream) (c : Both (MutBor (Constructed S)) (MutBor (Constructed S))) where
  abbrev pub NoFault : Type 0
  NoFault = Between stream c (λ c d. d.stream.faults ≡ c.stream.faults)

  abbrev pub Fault : Type 0
  Fault = Between stream c (λ c d. Grew c.stream.faults d.stream.faults)

  -- what a call that passes over the next value did, with a stop in place of an error
  abbrev pub PassedStep : {T X : Type 0} → Result (Option T) (Stop X) → Type 0
  PassedStep r = NextBy any (λ i _ j. PassesValue i j) (Refuses stop_cause any HasNoNext ⊥) (of_constructed stream c.entry.now) r
      (of_constructed stream c.exit.now)

  abbrev pub PassedOver : ℕ → Type 0
  PassedOver n = Between stream c (λ c d. PassesOver c n d)

  abbrev pub PassedAtOnce : {X : Type 0} → Result Bool (Stop X) → Type 0
  PassedAtOnce r = AtOnceBy stop_cause (of_constructed stream c.entry.now) r (of_constructed stream c.exit.now)

  -- the content behind a header was walked over
  abbrev pub WalkedOver : {T X : Type 0} → CodeHeader → Result T (Stop X) → Type 0
  WalkedOver h r = TakesContent stop_cause itself (walked stop_cause) (of_constructed stream c.entry.now) (header_of h) r
      (of_constructed stream c.exit.now)
