-- What a capture requires of its closure, and what it returns and leaves; when a value is captured, and when all are.
use Rattle.std.specs.Prelude.{◌≡◌, ◌≢◌, ◌||◌, ℕ, ◌<◌, ◌≤◌, true, false, List, [], ◌++◌, length, Option, Result, Ok, ◌⊎◌, ◌∷◌}
use Rattle.std.specs.Borrow.{MutBor}
use Rattle.bcder.specs.declared.{mode.Mode.Mode, decode.content.Constructed.Constructed, decode.content.State.State}
use Rattle.bcder.specs.declared.{decode.error.DecodeError.DecodeError, decode.source.capture.CaptureSource.CaptureSource}
use Rattle.bcder.specs.declared.{decode.source.limited.LimitedSource.LimitedSource}
use Rattle.bcder.specs.declared.decode.content.State.TheVariants.{Failed, Open, Ended}
use Rattle.bcder.specs.x690.Tree.{Tree, Trees}
use Rattle.bcder.specs.x690.Encoding.{AreEncodings}
use Rattle.bcder.specs.x690.Preorder.{Heading, preorder}
use Rattle.bcder.specs.x690.Grammar.{IsOnly}
use Rattle.bcder.specs.calls.Cause.{cause_of, of_source, of_memory}
use Rattle.bcder.specs.calls.Stream.{Stream, Grew}
use Rattle.bcder.specs.calls.Sources.{capturing}
use Rattle.bcder.specs.calls.Captured.{Kept, AreWhole}
use Rattle.bcder.specs.calls.Content.{ContentForm, Reading, label, Closes, Moves, EndsBefore, IsDone, any, Refuses}
use Rattle.bcder.specs.calls.Calls.{Answered, NextBy, Returns}
use Rattle.bcder.specs.calls.Decoding.{RefusesOn}
use Rattle.bcder.specs.calls.Views.{of_constructed, limited_stream}
use Rattle.bcder.specs.calls.Walking.{HeadersFrom, HasNoNext, HasValue, ClosesBefore, HasValues}

-- unmarked content of the octets w, over a source that has failed n times
pub record IsHanded (w : List ℕ) (n : ℕ) (o : Option ℕ) (k : ContentForm) (st : State) (m : Mode) (i : Reading) : Type 0 where
  pub rest : i.stream.rest ≡ w
  pub faults : i.stream.faults ≡ n
  pub owed : i.owed ≡ o
  pub kind : i.kind ≡ k
  pub state : i.state ≡ st
  pub mode : i.mode ≡ m
  pub marked : i.marked ≡ false

-- the content that the closure of a capture of c gets: the same values, in the same state and mode, unmarked
abbrev pub IsCaptureOf : Reading → Reading → Type 0
IsCaptureOf c i = IsHanded c.stream.rest c.stream.faults c.owed c.kind c.state c.mode i

-- octets were passed
abbrev pub PassesSome : Reading → Reading → Type 0
PassesSome c d = length d.stream.rest < length c.stream.rest

-- these octets were passed, and after them the end marker if it ended the content; they are encodings in the mode
pub record Holds (c : Reading) (mode : Mode) (octets : List ℕ) (d : Reading) : Type 0 where
  pub whole : AreWhole mode octets
  pub close : List ℕ
  pub rest : c.stream.rest ≡ octets ++ (close ++ d.stream.rest)
  pub closes : Closes mode c close d

module _ {C X : Type 0} (view : C → Reading) (post : MutBor C → Result (Unit {0}) (DecodeError X) → MutBor C → Type 0) where
  -- the octets k were captured from c: those that the closure passed; the content is left as the closure left its own
  pub record Captures (c : Reading) (k : Kept) (d : Reading) : Type 0 where
    pub handed : Reading
    pub left : Reading
    pub hands : IsCaptureOf c handed
    pub answered : Answered {R = Result (Unit {0}) (DecodeError X)} view post handed (Ok tt) left
    pub moves : Moves handed left
    pub usable : left.state ≢ Failed
    pub rest : d.stream.rest ≡ left.stream.rest
    pub owed : d.owed ≡ left.owed
    pub state : d.state ≡ left.state
    pub faults : d.stream.faults ≡ left.stream.faults
    pub marked : d.marked ≡ (c.marked || left.marked)
    pub holds : Holds c k.mode k.octets d
    pub mode : k.mode ≡ label c.mode left.marked
    pub start : k.start ≡ c.stream.position

  -- why nothing was captured, and e was returned, if the closure left this content and the source these faults:
  -- the closure refused, or left failed content; or then the source failed, or memory ran out for octets that the closure passed
  pub data RefusesLeft (handed : Reading) (e : DecodeError X) (left : Reading) (faults : ℕ) : Type 0 where
    by_content : RefusesOn cause_of view post handed e left → faults ≡ left.stream.faults → RefusesLeft handed e left faults
    by_source : Answered {R = Result (Unit {0}) (DecodeError X)} view post handed (Ok tt) left → left.state ≢ Failed
        → cause_of e ≡ of_source → Grew left.stream.faults faults → RefusesLeft handed e left faults
    by_memory : Answered {R = Result (Unit {0}) (DecodeError X)} view post handed (Ok tt) left → left.state ≢ Failed
        → cause_of e ≡ of_memory → PassesSome handed left → faults ≡ left.stream.faults → RefusesLeft handed e left faults

  -- nothing was captured from c, and e was returned: the rest and the state of c are as they were
  pub record RefusesCapture (c : Reading) (e : DecodeError X) (d : Reading) : Type 0 where
    pub handed : Reading
    pub left : Reading
    pub hands : IsCaptureOf c handed
    pub moves : Moves handed left
    pub rest : d.stream.rest ≡ c.stream.rest
    pub owed : d.owed ≡ c.owed
    pub state : d.state ≡ c.state
    pub marked : d.marked ≡ (c.marked || left.marked)
    pub refuses : RefusesLeft handed e left d.stream.faults

-- content over a capturing source over the source of content
abbrev pub of_captured : {S : Type 0} → (S → Stream) → Constructed (CaptureSource (LimitedSource S)) → Reading
of_captured stream = of_constructed (capturing (limited_stream stream))

-- ---- the next value, or all values

-- octets were captured, as Q says; or none were, content is as it was, and there is none of what is asked for; memory runs out
-- only if there is some
abbrev pub CapturesBy : {X : Type 0} → (Reading → Kept → Reading → Type 0) → (Reading → Type 0) → (Reading → Type 0) → Reading
    → Result Kept (DecodeError X) → Reading → Type 0
CapturesBy Q HasNone HasSome c r d = Returns (λ k. Q c k d) (λ e. Refuses cause_of any HasNone ((cause_of e ≡ of_memory) × HasSome c) c e d
    × (d.stream.rest ≡ c.stream.rest) × (d.owed ≡ c.owed) × (d.state ≡ c.state)) c r d

-- headers in these octets, the first at their beginning, lead to a constructed value at a depth of four or more
pub record LeadDeep (mode : Mode) (w : List ℕ) : Type 0 where
  pub calls : List Heading
  pub last : Heading
  pub some : (t : Tree) × (more : List Heading) × (preorder t 0 ≡ (calls ++ last ∷ []) ++ more)
  pub stand : HeadersFrom mode (calls ++ last ∷ []) w
  pub constructed : last.constructed ≡ true
  pub deep : 4 ≤ last.depth

-- ---- one value

-- a value comes next, or what comes next leads to a deep one
pub data HasValueOrDeep (c : Reading) : Type 0 where
  of_value : (t : Tree) (w after : List ℕ) → HasValue c t w after → HasValueOrDeep c
  -- open content that is not at its end begins with headers that lead to a deep value
  of_depth : c.state ≡ Open → ((after : List ℕ) → EndsBefore c after → ⊥) → LeadDeep c.mode c.stream.rest → HasValueOrDeep c

-- the octets k are the one value that comes next in c, and d is left after it
pub record CapturesValue (c : Reading) (k : Kept) (d : Reading) : Type 0 where
  pub tree : Tree
  pub has : HasValue c tree k.octets d.stream.rest
  pub only : IsOnly c.mode tree k.octets c.stream.rest
  pub mode : k.mode ≡ c.mode
  pub start : k.start ≡ c.stream.position
  pub stays : d.state ≡ Open

-- the same by itself: open content that is not at its end begins with headers that lead to a deep value
pub record BeginsDeep (c : Reading) : Type 0 where
  pub usable : c.state ≡ Open
  pub some : (after : List ℕ) → EndsBefore c after → ⊥
  pub leads : LeadDeep c.mode c.stream.rest

-- ---- the next value, if there is one

-- the next value was captured, or content was at its end, or a value was refused; memory runs out only if a value comes next,
-- or what does leads to a deep one
abbrev pub CapturesNext : {X : Type 0} → Reading → Result (Option Kept) (DecodeError X) → Reading → Type 0
CapturesNext = NextBy any CapturesValue
    (λ i e j. Refuses cause_of any HasNoNext ((cause_of e ≡ of_memory) × HasValueOrDeep i) i e j)

-- ---- all values

-- the rest of open content, up to its end, is not encodings of values
pub record HasOthers (c : Reading) : Type 0 where
  pub usable : c.state ≡ Open
  pub none : HasValues c → ⊥

-- the octets begin with some values, and what follows these leads to a deep one
pub record HasDeepBehind (mode : Mode) (w : List ℕ) : Type 0 where
  pub values : Trees
  pub front : List ℕ
  pub behind : List ℕ
  pub encode : AreEncodings mode values front
  pub is : w ≡ front ++ behind
  pub leads : LeadDeep mode behind

-- open content, of which something is left, is values up to its end, or has a deep one after some
pub record HasValuesOrDeep (c : Reading) : Type 0 where
  pub usable : c.state ≡ Open
  pub some : IsDone c → ⊥
  pub there : HasValues c ⊎ HasDeepBehind c.mode c.stream.rest

-- the octets k are all values up to the end of c, and d is at that end, its marker taken
pub record CapturesValues (c : Reading) (k : Kept) (d : Reading) : Type 0 where
  pub whole : AreWhole c.mode k.octets
  pub close : List ℕ
  pub rest : c.stream.rest ≡ k.octets ++ (close ++ d.stream.rest)
  pub closes : Closes c.mode c close d
  pub are_all : c.state ≡ Open → ClosesBefore c.kind c.mode c.owed k.octets (close ++ d.stream.rest)
  pub are_none : c.state ≡ Ended → k.octets ≡ []
  pub done : IsDone d
  pub mode : k.mode ≡ c.mode
  pub start : k.start ≡ c.stream.position
