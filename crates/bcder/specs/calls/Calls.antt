-- What calls require of a closure that gets content, what they say about it, and what takes of a value return and leave.
use Rattle.std.specs.Prelude.{◌≡◌, ◌≢◌, ◌||◌, ℕ, ◌+◌, ◌≤◌, Bool, true, false, List, ◌++◌, length, take, Option, Some, Result, Ok, Err, IfOk}
use Rattle.std.specs.Prelude.{IfErr, OnOk, ◌⊎◌, IfSome, IfNone, OnErr, MatchOption}
use Rattle.std.specs.Borrow.{MutBor}
use Rattle.bcder.specs.declared.{mode.Mode.Mode, length.Length.Length, decode.content.State.State, decode.error.ContentError.ContentError}
use Rattle.bcder.specs.declared.{decode.error.ContentError.TheVariants.ExpectedTag, decode.error.DecodeError.DecodeError}
use Rattle.bcder.specs.declared.length.Length.TheVariants.{Definite, Indefinite}
use Rattle.bcder.specs.declared.decode.content.State.TheVariants.{Open, Failed}
use Rattle.bcder.specs.declared.decode.content.Kind.TheVariants as kind
use Rattle.bcder.specs.x690.Identifier.{Tag, IsValueTag}
use Rattle.bcder.specs.x690.Tree.{Tree}
use Rattle.bcder.specs.x690.Encoding.{IsEncoding}
use Rattle.bcder.specs.calls.Cause.{Cause, of_source, IsOfContent, cause_of, of_content, IsRefusal}
use Rattle.bcder.specs.calls.Stream.{Stream, Grew}
use Rattle.bcder.specs.calls.Content.{Reading, ContentForm, Octets, label, Moves, values, Asked, HasHeader, IsDone, EndsBefore, any, tagged}
use Rattle.bcder.specs.calls.Content.{IsMissing, NothingThere, Refuses}

-- ---- what a closure gets

-- the form of the content behind a header
abbrev pub IsFormOf : Bool → Length → ContentForm → Type 0
IsFormOf form Indefinite k = k ≡ values kind.Indefinite
IsFormOf false (Definite n) k = k ≡ Octets
IsFormOf true (Definite n) k = k ≡ values kind.Definite

-- what the content is owed, and its octets: those that its length promises, or all that follow
abbrev pub ContentOf : Length → Option ℕ → List ℕ → Option ℕ → List ℕ → Type 0
ContentOf Indefinite owed after o rest = (o ≡ owed) × (rest ≡ after)
ContentOf (Definite n) owed after o rest = (o ≡ Some n) × (rest ≡ take n after)

-- the content behind a header: open and unmarked; `after` are the octets behind the header, of which `owed` are owed
pub record Hands (m : Mode) (f : Bool) (len : Length) (owed : Option ℕ) (after : List ℕ) (i : Reading) : Type 0 where
  pub state : i.state ≡ Open
  pub mode : i.mode ≡ m
  pub marked : i.marked ≡ false
  pub form : IsFormOf f len i.kind
  pub octets : ContentOf len owed after i.owed i.stream.rest

-- unmarked content over the stream s, as a closure gets it: with this limit, form, state and mode
pub record IsOver (s : Stream) (o : Option ℕ) (k : ContentForm) (st : State) (m : Mode) (i : Reading) : Type 0 where
  pub stream : i.stream ≡ s
  pub owed : i.owed ≡ o
  pub kind : i.kind ≡ k
  pub state : i.state ≡ st
  pub mode : i.mode ≡ m
  pub marked : i.marked ≡ false

-- the tag t and the content i that a closure can get inside content c: those of an asked header that comes next
pub record IsInside (asked : Asked) (c : Reading) (t : Tag) (i : Reading) : Type 0 where
  pub after : List ℕ
  pub front : HasHeader asked c after
  pub is : t ≡ front.tag
  pub hands : Hands c.mode front.form front.len front.owed after i
  -- it follows that t is a value tag, and that the content is open, unmarked, in the mode of c, not at top level, and shorter
  pub is_value_tag : IsValueTag t
  pub state : i.state ≡ Open
  pub mode : i.mode ≡ c.mode
  pub marked : i.marked ≡ false
  pub bounded : i.kind ≢ values kind.Unbounded
  pub shorter : length i.stream.rest + 2 ≤ length c.stream.rest

-- ---- what is required of a closure of content

module _ {C : Type 0} (view : C → Reading) (Handed : Reading → Type 0) where
  -- the closure may be called on any content that it can get
  abbrev pub MayBeCalledOn : (MutBor C → Type 0) → Type 0
  MayBeCalledOn pre = (p : MutBor C) → Handed (view p.now) → pre p

module _ {C R : Type 0} (view : C → Reading) (Handed : Reading → Type 0) where
  -- whatever the closure leaves is reached by lawful steps from the content that it got
  abbrev pub IsLawfulOn : (MutBor C → R → MutBor C → Type 0) → Type 0
  IsLawfulOn post = (p : MutBor C) (r : R) (q : MutBor C) → Handed (view p.now) → post p r q → Moves (view p.now) (view q.now)

-- ---- what a closure did

module _ {C R : Type 0} (view : C → Reading) where
  -- the closure got content i, returned r and left content j
  pub record Answered (post : MutBor C → R → MutBor C → Type 0) (i : Reading) (r : R) (j : Reading) : Type 0 where
    pub handed : MutBor C
    pub left : MutBor C
    pub handed_is : view handed.now ≡ i
    pub left_is : view left.now ≡ j
    pub called : post handed r left

  -- the closure got content i and returned r; what it left is at its end once a marker there is taken, and is j then
  pub record AnswersDone (post : Tag → MutBor C → R → MutBor C → Type 0) (t : Tag) (i : Reading) (r : R) (j : Reading) : Type 0 where
    pub left : Reading
    pub answered : Answered (post t) i r left
    pub finishes : Moves left j
    pub marked : j.marked ≡ left.marked
    pub no_fault : j.stream.faults ≡ left.stream.faults
    pub ends : EndsBefore left j.stream.rest
    pub done : IsDone j

-- why the content that a closure left is refused with e: it failed, it is not at its end, or the source failed;
-- `why` gives the cause of e
pub data RefusesEnd {E : Type 0} (why : E → Cause ContentError) (c : Reading) (e : E) (d : Reading) : Type 0 where
  left_failed : c.state ≡ Failed → IsOfContent (why e) → RefusesEnd why c e d
  source_failed : why e ≡ of_source → Grew c.stream.faults d.stream.faults → RefusesEnd why c e d
  left_open : ((after : List ℕ) → EndsBefore c after → ⊥) → IsOfContent (why e) → RefusesEnd why c e d

-- why the content i of a value was refused with e, and left as j: the closure refused it, or what it left is not at its end;
-- `why` gives the cause of e
pub data RefusesContent {C T E : Type 0} (why : E → Cause ContentError) (view : C → Reading)
    (post : Tag → MutBor C → Result T E → MutBor C → Type 0) (t : Tag) (i : Reading) (e : E) (j : Reading) : Type 0 where
  by_closure : Answered {R = Result T E} view (post t) i (Err e) j → RefusesContent why view post t i e j
  unfinished : (x : T) (left : Reading) → Answered {R = Result T E} view (post t) i (Ok x) left → Moves left j → j.marked ≡ left.marked
      → RefusesEnd why left e j → RefusesContent why view post t i e j

-- ---- a value that was taken, or not

module _ {C T E : Type 0} (view : C → Reading) (post : Tag → MutBor C → Result T E → MutBor C → Type 0) where
  -- a value was taken: its header came next, and the closure returned x for its content and left that at its end
  pub record TakesValue (asked : Asked) (c : Reading) (x : T) (d : Reading) : Type 0 where
    pub usable : c.state ≡ Open
    pub passed : List ℕ
    pub front : HasHeader asked c (passed ++ d.stream.rest)
    pub handed : Reading
    pub left : Reading
    pub hands : Hands c.mode front.form front.len front.owed (passed ++ d.stream.rest) handed
    pub answers : AnswersDone {R = Result T E} view post front.tag handed (Ok x) left
    pub tree : Tree
    pub encodes : IsEncoding (label c.mode left.marked) tree (front.octets ++ passed)
    pub follows : front.len ≡ Indefinite → d.stream.rest ≡ left.stream.rest
    pub faults_handed : handed.stream.faults ≡ c.stream.faults
    pub faults_left : left.stream.faults ≡ d.stream.faults
    pub stays : d.state ≡ Open
    pub marked : d.marked ≡ (c.marked || left.marked)

-- an asked header comes next, and the content behind it was refused
pub record RefusesFront {C T E : Type 0} (why : E → Cause ContentError) (view : C → Reading)
    (post : Tag → MutBor C → Result T E → MutBor C → Type 0) (asked : Asked) (c : Reading) (e : E) (d : Reading) : Type 0 where
  pub usable : c.state ≡ Open
  pub after : List ℕ
  pub front : HasHeader asked c after
  pub handed : Reading
  pub left : Reading
  pub hands : Hands c.mode front.form front.len front.owed after handed
  pub moves : Moves handed left
  pub faults_handed : handed.stream.faults ≡ c.stream.faults
  pub faults_left : left.stream.faults ≡ d.stream.faults
  pub marked : d.marked ≡ (c.marked || left.marked)
  pub refuses : RefusesContent why view post front.tag handed e left

-- ---- takes of a value

-- no asked value is there, which content shows without a fault of the source
pub record HasNone (asked : Asked) (c d : Reading) : Type 0 where
  pub missing : IsMissing asked c d
  pub marked : d.marked ≡ c.marked
  pub no_fault : d.stream.faults ≡ c.stream.faults

-- the refusal if no value is there: that of a call for a tag names it
abbrev pub TellsNone : {X : Type 0} → Asked → DecodeError X → Type 0
TellsNone any e = IsRefusal e
TellsNone (tagged t) e = cause_of e ≡ of_content (ExpectedTag t)

-- a call returned what Gives says, and the source met no fault; or an error, of which IsRefused says why; the mode and the mark stay
pub record Returns {T E : Type 0} (Gives : T → Type 0) (IsRefused : E → Type 0) (c : Reading) (r : Result T E) (d : Reading) : Type 0 where
  pub value : IfOk r Gives
  pub no_fault : OnOk r (d.stream.faults ≡ c.stream.faults)
  pub refused : IfErr r IsRefused
  pub mode : d.mode ≡ c.mode
  pub marked : d.marked ≡ c.marked

-- a call returned something of the next value, as Gives says, or that there is none; or an error, and content has failed
abbrev pub NextBy : {T E : Type 0} → Asked → (Reading → T → Reading → Type 0) → (Reading → E → Reading → Type 0)
    → Reading → Result (Option T) E → Reading → Type 0
NextBy asked Gives IsRefused c r d =
    Returns (λ o. MatchOption o (HasNone asked c d) (λ x. Gives c x d)) (λ e. (d.state ≡ Failed) × IsRefused c e d) c r d

-- a call returned something of the next value, which it needs: if there is none, the content stays usable
abbrev pub OneBy : {T X : Type 0} → Asked → (Reading → T → Reading → Type 0) → (Reading → DecodeError X → Reading → Type 0)
    → Reading → Result T (DecodeError X) → Reading → Type 0
OneBy asked Gives IsRefused c r d =
    Returns (λ x. Gives c x d) (λ e. HasNone asked c d × TellsNone asked e ⊎ (d.state ≡ Failed) × IsRefused c e d) c r d

module _ {C T X : Type 0} (view : C → Reading) (post : Tag → MutBor C → Result T (DecodeError X) → MutBor C → Type 0)
    (form : Option Bool) (asked : Asked) where
  -- why no value was taken from c, with error e: no asked header was passed, the value has the form that the call refuses, if any,
  -- or its content was refused
  pub data RefusesTake (c : Reading) (e : DecodeError X) (d : Reading) : Type 0 where
    by_header : Refuses cause_of asked (NothingThere asked) ⊥ c e d → d.marked ≡ c.marked → RefusesTake c e d
    by_form : (c.state ≡ Open) × (after : List ℕ) × (h : HasHeader asked c after) × (form ≡ Some h.form) → IsRefusal e
        → d.marked ≡ c.marked → RefusesTake c e d
    by_content : RefusesFront cause_of view post asked c e d → RefusesTake c e d

  -- the effect of a call that returns the value, or that there is none
  pub record TakesNext (c : Reading) (r : Result (Option T) (DecodeError X)) (d : Reading) : Type 0 where
    pub value : IfOk r (λ o. IfSome o (λ x. TakesValue view post asked c x d))
    pub shorter : IfOk r (λ o. IfSome o (λ _. length d.stream.rest + 2 ≤ length c.stream.rest))
    pub none : IfOk r (λ o. IfNone o (HasNone asked c d))
    pub refused : IfErr r (λ e. RefusesTake c e d)
    pub failed : OnErr r (d.state ≡ Failed)
    pub mode : d.mode ≡ c.mode

  -- the effect of a call that needs a value: if there is none, the content stays usable
  pub record Takes (c : Reading) (r : Result T (DecodeError X)) (d : Reading) : Type 0 where
    pub value : IfOk r (λ x. TakesValue view post asked c x d)
    pub shorter : OnOk r (length d.stream.rest + 2 ≤ length c.stream.rest)
    pub refused : IfErr r (λ e. HasNone asked c d × TellsNone asked e ⊎ (d.state ≡ Failed) × RefusesTake c e d)
    pub mode : d.mode ≡ c.mode
