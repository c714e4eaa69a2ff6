-- What is required of a closure that decodes, and what is said about it: the values of a source, or contents octets.
use Rattle.std.specs.Prelude.{◌≡◌, ◌≢◌, ℕ, Option, None, Result, Ok, Err, IfOk, IfErr, [], Some, List, length}
use Rattle.std.specs.Borrow.{MutBor}
use Rattle.bcder.specs.declared.{mode.Mode.Mode, decode.error.ContentError.ContentError, decode.error.DecodeError.DecodeError}
use Rattle.bcder.specs.declared.decode.content.State.TheVariants.{Open, Failed}
use Rattle.bcder.specs.declared.decode.content.Kind.TheVariants as kind
use Rattle.bcder.specs.calls.Stream.{Stream, limited, borrowed, Grew, IsExhausted, at_hand}
use Rattle.bcder.specs.calls.Cause.{Cause, IsOfContent, cause_of, position_of, of_source, IsRefusal}
use Rattle.bcder.specs.calls.Content.{Reading, Moves, values, Resembles, Octets}
use Rattle.bcder.specs.calls.Calls.{Answered, IsOver}

-- all values of a source, as a closure gets them: open, unmarked, unbounded content over it
abbrev pub IsAllOf : Stream → Mode → Reading → Type 0
IsAllOf s m i = IsOver (limited None s) None (values kind.Unbounded) Open m i

-- all values of a source behind a borrow, as a closure gets them
abbrev pub IsAllBehind : Stream → Mode → Reading → Type 0
IsAllBehind s m i = (name : ℕ) × IsAllOf (borrowed name s) m i

-- why content i was refused with e, and left as j: the closure refused it, or returned Ok and left failed content;
-- `why` gives the cause of e
pub data RefusesOn {C T E : Type 0} (why : E → Cause ContentError) (view : C → Reading) (post : MutBor C → Result T E → MutBor C → Type 0)
    (i : Reading) (e : E) (j : Reading) : Type 0 where
  by_closure : Answered {R = Result T E} view post i (Err e) j → RefusesOn why view post i e j
  left_failed : (x : T) → Answered {R = Result T E} view post i (Ok x) j → j.state ≡ Failed → IsOfContent (why e)
      → RefusesOn why view post i e j

-- x was decoded from the source s in a mode: a closure got all its values, and s' is left of it
pub record Decodes {C T E : Type 0} (view : C → Reading) (post : MutBor C → Result T E → MutBor C → Type 0) (s : Stream) (m : Mode) (x : T)
    (s' : Stream) : Type 0 where
  pub handed : Reading
  pub left : Reading
  pub over : IsAllOf s m handed
  pub leaves : left.stream ≡ limited None s'
  pub moves : Moves handed left
  pub answered : Answered {R = Result T E} view post handed (Ok x) left
  pub usable : left.state ≢ Failed

-- nothing was decoded from the source s in a mode, e was returned, and s' is left of it
pub record RefusesDecode {C T E : Type 0} (why : E → Cause ContentError) (view : C → Reading)
    (post : MutBor C → Result T E → MutBor C → Type 0) (s : Stream) (m : Mode) (e : E) (s' : Stream) : Type 0 where
  pub handed : Reading
  pub left : Reading
  pub over : IsAllOf s m handed
  pub leaves : left.stream ≡ limited None s'
  pub moves : Moves handed left
  pub refuses : RefusesOn why view post handed e left

-- why e was returned after a closure took values and left s, up to a limit: octets are left, and e has their position;
-- or the source failed, and is s' then
pub data RefusesRest {X : Type 0} (limit : Option ℕ) (s : Stream) (e : DecodeError X) (s' : Stream) : Type 0 where
  octets_left : (IsExhausted limit s.rest → ⊥) → IsRefusal e → position_of e ≡ Some s.position → s'.faults ≡ s.faults
      → RefusesRest limit s e s'
  source_failed : cause_of e ≡ of_source → Grew s.faults s'.faults → RefusesRest limit s e s'

-- ---- all of a source

module _ {C T X : Type 0} (view : C → Reading) (post : MutBor C → Result T (DecodeError X) → MutBor C → Type 0) (s : Stream)
    (m : Mode) where
  -- x was decoded from the source s in a mode, and nothing is left of it
  pub record DecodesWhole (x : T) : Type 0 where
    pub left : Stream
    pub decodes : Decodes view post s m x left
    pub none_left : left.rest ≡ []

  -- why e was returned: nothing was decoded, something is left, or the source failed when asked for more
  pub data RefusesWhole (e : DecodeError X) : Type 0 where
    by_decoding : (left : Stream) → RefusesDecode cause_of view post s m e left → RefusesWhole e
    by_rest : (x : T) (left later : Stream) → Decodes view post s m x left → RefusesRest None left e later → RefusesWhole e

-- ---- content that is taken to its end

module _ {C T X : Type 0} (view : C → Reading) (post : MutBor C → Result T (DecodeError X) → MutBor C → Type 0) (i : Reading) where
  -- the closure got content i, returned x, and left content that is usable and has no octets, which is k once it was asked for more
  pub record AnswersToEnd (x : T) (k : Reading) : Type 0 where
    pub left : Reading
    pub answered : Answered {R = Result T (DecodeError X)} view post i (Ok x) left
    pub usable : left.state ≢ Failed
    pub same : Resembles left k
    pub no_fault : k.stream.faults ≡ left.stream.faults
    pub none_left : IsExhausted k.owed k.stream.rest

  -- why e was returned: the closure refused, left failed content, or left octets; or the source failed when asked for more
  pub data RefusesToEnd (e : DecodeError X) (k : Reading) : Type 0 where
    by_closure : RefusesOn cause_of view post i e k → RefusesToEnd e k
    by_rest : (x : T) (left : Reading) → Answered {R = Result T (DecodeError X)} view post i (Ok x) left → left.state ≢ Failed
        → Resembles left k → RefusesRest left.owed left.stream e k.stream → RefusesToEnd e k

-- ---- all contents octets of a primitive value

-- the contents octets c as values in a mode, as a closure gets them
abbrev pub IsWithin : Reading → Mode → Reading → Type 0
IsWithin c m i = IsOver c.stream c.owed (values kind.Definite) Open m i

-- a closure got the contents octets c as content i; k is left of that, and d of c
pub record HandsWithin (c : Reading) (m : Mode) (i k d : Reading) : Type 0 where
  pub over : IsWithin c m i
  pub moves : Moves i k
  pub stream : d.stream ≡ k.stream
  pub owed : d.owed ≡ k.owed

module _ {C T X : Type 0} (view : C → Reading) (post : MutBor C → Result T (DecodeError X) → MutBor C → Type 0) (c : Reading)
    (m : Mode) where
  -- x was decoded from the contents octets c, as values in a mode up to their end, and d is left of them
  pub record DecodesWithin (x : T) (d : Reading) : Type 0 where
    pub handed : Reading
    pub left : Reading
    pub hands : HandsWithin c m handed left d
    pub answers : AnswersToEnd view post handed x left

  -- why nothing was decoded from the contents octets c, and e was returned
  pub record RefusesWithin (e : DecodeError X) (d : Reading) : Type 0 where
    pub handed : Reading
    pub left : Reading
    pub hands : HandsWithin c m handed left d
    pub refuses : RefusesToEnd view post handed e left

-- ---- the contents octets of a primitive value

module _ {C T X : Type 0} (view : C → Reading) (post : MutBor C → Result T (DecodeError X) → MutBor C → Type 0) where
  -- the closure returned x for the content i, and left none of it
  pub record AnsweredAlone (i : Reading) (x : T) (j : Reading) : Type 0 where
    pub answered : Answered {R = Result T (DecodeError X)} view post i (Ok x) j
    pub done : j.owed ≡ Some 0

  -- why e was returned: the closure refused, or it returned Ok and left octets
  pub data RefusedAlone (i : Reading) (e : DecodeError X) (j : Reading) : Type 0 where
    by_closure : Answered {R = Result T (DecodeError X)} view post i (Err e) j → RefusedAlone i e j
    left_octets : (x : T) → Answered {R = Result T (DecodeError X)} view post i (Ok x) j → j.owed ≢ Some 0
        → IsRefusal e → RefusedAlone i e j

  -- a closure got the octets that a source gives, all of them, with n owed
  pub record RanAlone (s : Stream) (n : ℕ) (m : Mode) (r : Result T (DecodeError X)) : Type 0 where
    pub handed : Reading
    pub left : Reading
    pub over : IsOver (limited (Some n) s) (Some n) Octets Open m handed
    pub moves : Moves handed left
    pub answers : IfOk r (λ x. AnsweredAlone handed x left)
    pub refuses : IfErr r (λ e. RefusedAlone handed e left)

-- content i is all the octets w, as a closure gets them
abbrev pub IsAllOctets : List ℕ → Mode → Reading → Type 0
IsAllOctets w m i = IsOver (limited (Some (length w)) (at_hand w)) (Some (length w)) Octets Open m i
