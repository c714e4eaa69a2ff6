-- What the steps over the content of a value return and leave.
use Rattle.std.specs.Prelude.{◌≡◌, ℕ, Bool, Option, Some, Result, Ok, Err, ◌≢◌, ◌||◌, ◌-◌, false, List, ◌++◌, None, IfOk, IfErr, OnOk}
use Rattle.std.specs.Borrow.{MutBor}
use Rattle.bcder.specs.declared.{length.Length.Length, decode.content.Constructed.Constructed, decode.content.Kind.Kind}
use Rattle.bcder.specs.declared.{decode.error.DecodeError.DecodeError, decode.header.Header.Header as CodeHeader}
use Rattle.bcder.specs.declared.{decode.error.ContentError.ContentError, mode.Mode.Mode}
use Rattle.bcder.specs.declared.length.Length.TheVariants.{Definite, Indefinite}
use Rattle.bcder.specs.declared.decode.content.Kind.TheVariants as kind
use Rattle.bcder.specs.declared.decode.content.State.TheVariants.{Open, Failed}
use Rattle.bcder.specs.x690.Identifier.{Tag}
use Rattle.bcder.specs.x690.Encoding.{Header, IsHeader, IsEncoding}
use Rattle.bcder.specs.x690.Tree.{Tree}
use Rattle.bcder.specs.calls.Cause.{Cause, cause_of, IsRefusal}
use Rattle.bcder.specs.calls.Stream.{Stream}
use Rattle.bcder.specs.calls.Content.{Reading, ContentForm, label, Moves, values}
use Rattle.bcder.specs.calls.Calls.{Hands, Answered, AnswersDone, RefusesContent}
use Rattle.bcder.specs.calls.Views.{of_constructed}
use Rattle.bcder.specs.calls.Decoding.{RefusesOn}
use Rattle.bcder.specs.steps.Peek.{is_constructed, len_of}
use Rattle.bcder.specs.steps.Entering.{Advances}

-- a closure got content over the source s, and left content over s'
pub record RunsOver (s : Stream) (o : Option ℕ) (k : ContentForm) (m : Mode) (handed left : Reading) (s' : Stream)
    (o' : Option ℕ) : Type 0 where
  pub stream : handed.stream ≡ s
  pub owed : handed.owed ≡ o
  pub kind : handed.kind ≡ k
  pub state : handed.state ≡ Open
  pub mode : handed.mode ≡ m
  pub marked : handed.marked ≡ false
  pub left_stream : left.stream ≡ s'
  pub left_owed : left.owed ≡ o'
  pub moves : Moves handed left

module _ {C T E : Type 0} (why : E → Cause ContentError) (view : C → Reading) (post : Tag → MutBor C → Result T E → MutBor C → Type 0) where
  -- a closure ran on content over a source
  pub record RanOver (s : Stream) (o : Option ℕ) (k : ContentForm) (m : Mode) (t : Tag) (r : Result T E) (mark : Bool) (s' : Stream)
      (o' : Option ℕ) : Type 0 where
    pub handed : Reading
    pub left : Reading
    pub runs : RunsOver s o k m handed left s' o'
    pub marks : left.marked ≡ mark
    pub answers : IfOk r (λ x. AnswersDone {R = Result T E} view post t handed (Ok x) left)
    pub refuses : IfErr r (λ e. RefusesContent why view post t handed e left)

  -- the content behind the header h was taken
  pub record TakesContent (c : Reading) (h : Header) (r : Result T E) (d : Reading) : Type 0 where
    pub passed : List ℕ
    pub advances : Advances c d passed
    pub state : d.state ≡ c.state
    pub handed : Reading
    pub left : Reading
    pub marked : d.marked ≡ (c.marked || left.marked)
    pub encodes : OnOk r ((octets : List ℕ) → IsHeader c.mode h.tag h.form h.len octets
        → (tree : Tree) × IsEncoding (label c.mode left.marked) tree (octets ++ passed))
    pub hands : Hands c.mode h.form h.len c.owed c.stream.rest handed
    pub moves : Moves handed left
    pub follows : h.len ≡ Indefinite → d.stream.rest ≡ left.stream.rest
    pub faults_handed : handed.stream.faults ≡ c.stream.faults
    pub faults_left : left.stream.faults ≡ d.stream.faults
    pub answers : IfOk r (λ x. AnswersDone {R = Result T E} view post h.tag handed (Ok x) left)
    pub refuses : IfErr r (λ e. RefusesContent why view post h.tag handed e left)

-- what is still owed around a value of n octets, some of which are left
abbrev pub popped : Option ℕ → ℕ → Option ℕ → Option ℕ
popped (Some outer) n (Some left) = Some (outer - (n - left))
popped (Some outer) n None = None
popped None n o = None

-- a closure ran on values up to the end of a source
pub record RanOn {C T E : Type 0} (why : E → Cause ContentError) (view : C → Reading) (post : MutBor C → Result T E → MutBor C → Type 0)
    (s : Stream) (o : Option ℕ) (m : Mode) (r : Result T E) (s' : Stream) (o' : Option ℕ) : Type 0 where
  pub handed : Reading
  pub left : Reading
  pub runs : RunsOver s o (values kind.Unbounded) m handed left s' o'
  pub usable : OnOk r (left.state ≢ Failed)
  pub answers : IfOk r (λ x. Answered {R = Result T E} view post handed (Ok x) left)
  pub refuses : IfErr r (λ e. RefusesOn why view post handed e left)

-- how the end of the values after a length is known
abbrev pub kind_behind : Length → Kind
kind_behind (Definite n) = kind.Definite
kind_behind Indefinite = kind.Indefinite

-- the limit of the content after a length, inside the limit o
abbrev pub limit_inside : Length → Option ℕ → Option ℕ
limit_inside (Definite n) o = Some n
limit_inside Indefinite o = o

-- the limit after that content, if this is left of the limit in it
abbrev pub limit_outside : Length → Option ℕ → Option ℕ → Option ℕ
limit_outside (Definite n) o left = popped o n left
limit_outside Indefinite o left = left

-- no octets are left of those that a length promises
abbrev pub IsTaken : Length → Option ℕ → Type 0
IsTaken (Definite n) left = left ≡ Some 0
IsTaken Indefinite left = Unit {0}

-- the content behind a header that was passed
abbrev pub IsBehind : {S : Type 0} → (S → Stream) → MutBor (Constructed S) → CodeHeader → Reading → Type 0
IsBehind stream c h i = Hands (of_constructed stream c.now).mode (is_constructed h.form) (len_of h.form) (of_constructed stream c.now).owed
    (of_constructed stream c.now).stream.rest i

-- a closure ran on this content
abbrev pub RanInside : {C T E : Type 0} → (E → Cause ContentError) → (C → Reading) → (Tag → MutBor C → Result T E → MutBor C → Type 0)
    → Reading → Tag → Result T E → Bool → Stream → Option ℕ → Type 0
RanInside why view post i t r mark s o = RanOver why view post i.stream i.owed i.kind i.mode t r mark s o

-- content made usable again
abbrev pub opened : Reading → Reading
opened c = record { stream = c.stream; owed = c.owed; kind = c.kind; state = Open; mode = c.mode; marked = c.marked; name = c.name }

-- what happened to the value whose header was passed: it has the refused form, or its content was refused, or taken
pub data TakesBehind {C T X : Type 0} (view : C → Reading) (post : Tag → MutBor C → Result T (DecodeError X) → MutBor C → Type 0)
    (form : Option Bool) (c : Reading) (h : Header) (r : Result (Option T) (DecodeError X)) (d : Reading) : Type 0 where
  of_form : (e : DecodeError X) → ◌≡◌ {A = Result (Option T) (DecodeError X)} r (Err e) → form ≡ Some h.form → IsRefusal e → d ≡ c
      → TakesBehind view post form c h r d
  refused : (e : DecodeError X) → ◌≡◌ {A = Result (Option T) (DecodeError X)} r (Err e)
      → TakesContent {T = T} cause_of view post c h (Err e) d → TakesBehind view post form c h r d
  taken : (x : T) (m : Reading) → ◌≡◌ {A = Result (Option T) (DecodeError X)} r (Ok (Some x)) → TakesContent cause_of view post c h (Ok x) m
      → d ≡ opened m → TakesBehind view post form c h r d
