-- What private steps of a capture require, return and leave.
use Rattle.std.specs.Prelude.{◌≡◌, ◌≢◌, ℕ, ◌≤◌, true, List, [], ◌++◌, Option, Result, IfOk, IfErr, OnOk, ◌-◌, Bool, false, length, take, Ok}
use Rattle.std.specs.Borrow.{MutBor}
use Rattle.bcder.specs.declared.{decode.error.DecodeError.DecodeError, mode.Mode.Mode, decode.content.Constructed.Constructed}
use Rattle.bcder.specs.declared.{decode.content.Kind.Kind, decode.content.State.State, decode.error.ContentError.ContentError}
use Rattle.bcder.specs.declared.{decode.source.capture.CaptureSource.CaptureSource}
use Rattle.bcder.specs.declared.decode.content.State.TheVariants.{Open, Failed}
use Rattle.bcder.specs.x690.Length.{IsEndOfContents}
use Rattle.bcder.specs.calls.Cause.{cause_of, of_memory, Cause}
use Rattle.bcder.specs.calls.Captured.{AreWhole}
use Rattle.bcder.specs.calls.Content.{Reading, Octets, IsDone, any, Refuses, values, Moves}
use Rattle.bcder.specs.calls.Walking.{GoesDeep, HasValues, Walks}
use Rattle.bcder.specs.calls.Capturing.{IsHanded, RefusesLeft}
use Rattle.bcder.specs.calls.Stream.{Stream, cut}
use Rattle.bcder.specs.calls.Sources.{capturing}
use Rattle.bcder.specs.calls.Calls.{Answered, IsOver, MayBeCalledOn, IsLawfulOn}
use Rattle.bcder.specs.calls.Decoding.{RefusesOn}
use Rattle.bcder.specs.calls.Views.{of_constructed}

-- the step that is captured: it passed what is asked for, or refused; memory runs out only if values are deep
pub record PassesBy {T X : Type 0} (Q : Reading → Reading → Type 0) (HasNone IsDeep : Reading → Type 0) (c : Reading)
    (r : Result T (DecodeError X)) (d : Reading) : Type 0 where
  pub passed : OnOk r (Q c d)
  pub no_fault : OnOk r (d.stream.faults ≡ c.stream.faults)
  pub refused : IfErr r (λ e. Refuses cause_of any HasNone ((cause_of e ≡ of_memory) × IsDeep c) c e d)
  pub marked : d.marked ≡ c.marked

-- content was passed to its end, and its marker was taken
pub record PassesToEnd (c d : Reading) : Type 0 where
  pub done : IsDone d
  pub all : c.state ≡ Open → HasValues c

-- values were passed, and then a deep one was met
pub record MetDeep (c : Reading) : Type 0 where
  pub form : c.kind ≢ Octets
  pub at : Reading
  pub left : Reading
  pub walks : Walks c at
  pub deep : GoesDeep at left

-- ---- an end marker after values

-- what follows values: end-of-contents octets if there is a marker, otherwise nothing
abbrev pub IsMarker : Mode → Bool → List ℕ → Type 0
IsMarker mode false e = e ≡ []
IsMarker mode true e = IsEndOfContents mode e

-- the octets w are these whole values, followed by the marker if there is one
pub record EndsIn (mode : Mode) (marker : Bool) (w front : List ℕ) : Type 0 where
  pub whole : AreWhole mode front
  pub close : List ℕ
  pub split : w ≡ front ++ close
  pub is_marker : IsMarker mode marker close

-- the last n octets are a marker after whole values
pub record EndsBy (mode : Mode) (w : List ℕ) (n : ℕ) : Type 0 where
  pub fits : n ≤ length w
  pub ends : EndsIn mode true w (take (length w - n) w)

-- ---- the steps inside a capture

module _ {C E : Type 0} (why : E → Cause ContentError) (view : C → Reading)
    (post : MutBor C → Result (Unit {0}) E → MutBor C → Type 0) where
  -- a closure ran on content over a stream, in any state, and left it with this state and mark
  pub record RanFrom (s : Stream) (o : Option ℕ) (k : Kind) (st : State) (m : Mode) (r : Result (Unit {0}) E) (st' : State) (mark : Bool)
      (s' : Stream) (o' : Option ℕ) : Type 0 where
    pub handed : Reading
    pub left : Reading
    pub from : IsOver s o (values k) st m handed
    pub left_stream : left.stream ≡ s'
    pub left_owed : left.owed ≡ o'
    pub left_state : left.state ≡ st'
    pub left_marked : left.marked ≡ mark
    pub moves : Moves handed left
    pub usable : OnOk r (left.state ≢ Failed)
    pub answers : IfOk r (λ x. Answered {R = Result (Unit {0}) E} view post handed (Ok x) left)
    pub refuses : IfErr r (λ e. RefusesOn why view post handed e left)

-- content over a source up to a limit, as a closure gets it, in any state
abbrev pub HandsOver : Stream → Option ℕ → Kind → State → Mode → Reading → Type 0
HandsOver s o k st m i = IsHanded (cut o s.rest) s.faults o (values k) st m i

module _ {C X : Type 0} (view : C → Reading) (post : MutBor C → Result (Unit {0}) (DecodeError X) → MutBor C → Type 0) where
  -- the octets b were passed by the closure, and then taken from the source
  pub record TakesPassed (s : Stream) (handed : Reading) (b : List ℕ) (left : Reading) (s' : Stream) : Type 0 where
    pub answered : Answered {R = Result (Unit {0}) (DecodeError X)} view post handed (Ok tt) left
    pub usable : left.state ≢ Failed
    pub rest : s.rest ≡ b ++ s'.rest
    pub passed : handed.stream.rest ≡ b ++ left.stream.rest
    pub faults : s'.faults ≡ left.stream.faults

  -- no octets were taken from the source
  pub record LeavesAll (s : Stream) (handed : Reading) (e : DecodeError X) (left : Reading) (s' : Stream) : Type 0 where
    pub rest : s'.rest ≡ s.rest
    pub refuses : RefusesLeft view post handed e left s'.faults

  -- a closure ran over a source up to a limit: the octets that it passed were taken, or none were
  pub record CapturesOver (s : Stream) (o : Option ℕ) (k : Kind) (st : State) (m : Mode) (r : Result (List ℕ) (DecodeError X)) (st' : State)
      (mark : Bool) (s' : Stream) : Type 0 where
    pub handed : Reading
    pub left : Reading
    pub hands : HandsOver s o k st m handed
    pub left_state : left.state ≡ st'
    pub left_marked : left.marked ≡ mark
    pub moves : Moves handed left
    pub kept : s'.kept ≡ s.kept
    pub takes : IfOk r (λ b. TakesPassed s handed b left s')
    pub refuses : IfErr r (λ e. LeavesAll s handed e left s')

module _ {S : Type 0} (stream : S → Stream) where
  -- the closure may be called on content over a capturing source over this source, up to a limit, and moves it
  abbrev pub CallableOver : MutBor S → Option ℕ → Kind → State → Mode → (MutBor (Constructed (CaptureSource S)) → Type 0) → Type 0
  CallableOver s o k st m pre = MayBeCalledOn (of_constructed (capturing stream)) (HandsOver (stream s.now) o k st m) pre

  abbrev pub LawfulOver : {R : Type 0} → MutBor S → Option ℕ → Kind → State → Mode
      → (MutBor (Constructed (CaptureSource S)) → R → MutBor (Constructed (CaptureSource S)) → Type 0) → Type 0
  LawfulOver s o k st m post = IsLawfulOn (of_constructed (capturing stream)) (HandsOver (stream s.now) o k st m) post
