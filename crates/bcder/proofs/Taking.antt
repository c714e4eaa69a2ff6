-- A value is its header, and then its content.
use Rattle.std.proofs.Common.{◌≡◌, ◌≢◌, ℕ, ◌+◌, ◌≤◌, Bool, true, false, List, ◌++◌, length, take, refl, ap, sym, ◌∙◌, arith, length-append, subst}
use Rattle.std.proofs.lemmas.Grind.{common_steps}
use Rattle.std.specs.Borrow.{MutBor}
use Rattle.std.specs.Prelude.{Option, Some, None, Result, Ok, Err, ◌||◌, IfOk, IfErr, IsErrAnd}
use Rattle.bcder.specs.declared.length.Length.{Length}
use Rattle.bcder.specs.declared.length.Length.TheVariants.{Definite, Indefinite}
use Rattle.bcder.specs.declared.decode.content.State.TheVariants.{Open, Failed}
use Rattle.bcder.specs.declared.decode.error.DecodeError.{DecodeError}
use Rattle.bcder.specs.x690.Identifier.{Tag}
use Rattle.bcder.specs.declared.decode.error.ContentError.{ContentError}
use Rattle.bcder.specs.calls.Cause.{Cause, cause_of, IsRefusal}
use Rattle.bcder.specs.x690.Tree.{Tree}
use Rattle.bcder.specs.x690.Encoding.{IsHeader, IsEncoding, Header}
use Rattle.bcder.specs.declared.decode.content.Kind.TheVariants as kind
use Rattle.bcder.specs.calls.Content.{NothingThere, Reading, ContentForm, Octets, label, values}
use Rattle.bcder.specs.calls.Content.{Moves, Asked, IsAsked, HasHeader}
use Rattle.bcder.specs.steps.Entering.{Advances, Enters}
use Rattle.bcder.specs.calls.Calls.{IsFormOf, ContentOf, Hands, Answered, AnswersDone, RefusesContent, by_closure}
use Rattle.bcder.specs.calls.Calls.{unfinished, TakesValue, RefusesFront, IsInside}
use Rattle.bcder.specs.steps.Inside.{TakesContent}
use Rattle.bcder.specs.steps.Inside.{TakesBehind, of_form, refused, taken}
use Rattle.bcder.specs.calls.Calls.{HasNone, by_header, by_form, by_content, TakesNext}
use Rattle.bcder.specs.laws.Complete.{header_size}
use Rattle.bcder.proofs.Moving.{moves_value, moves_failed, advances_trans, open_not_ended}
use Rattle.bcder.specs.calls.Content.{Refuses}
use Rattle.bcder.specs.calls.Content as refusals
use Rattle.bcder.proofs.Entering.{advances_to, header_entered}

or_left : (a b : Bool) → a ≡ true → (a || b) ≡ true
or_left true b e = refl
or_left false b e = absurd (let x : false ≡ true = e in cc)

or_right : (a b : Bool) → b ≡ true → (a || b) ≡ true
or_right true b e = refl
or_right false b e = e

module _ (c c1 c2 : Reading) (h : Header) (asked : Asked) (t : IsAsked asked h.tag) (x : Enters c h c1) where
  both : (p : List ℕ) → Advances c1 c2 p → Advances c c2 (x.octets ++ p)
  both p a = advances_trans c c1 c2 x.octets p x.advances a

  abbrev mode_is : c1.mode ≡ c.mode
  mode_is = x.advances.mode

  abbrev header_there : (p : List ℕ) (d : Reading) → Advances c1 c2 p → d.stream ≡ c2.stream → HasHeader asked c (p ++ d.stream.rest)
  header_there p d a s = record {
    tag = h.tag;
    form = h.form;
    len = h.len;
    octets = x.octets;
    is_header = x.is_header;
    is_asked = t;
    rest = x.advances.rest ∙ ap (λ z. x.octets ++ z) (a.rest ∙ ap (λ z. p ++ z.rest) (sym s));
    owed = c1.owed;
    falls = x.advances.owed;
    fits = x.fits;
  }

  module _ {C T E : Type 0} (why : E → Cause ContentError) (view : C → Reading) (post : Tag → MutBor C → Result T E → MutBor C → Type 0) where
    abbrev encoded : (v : T) (k : TakesContent why view post c1 h (Ok v) c2)
        → (tree : Tree) × IsEncoding (label c.mode k.left.marked) tree (x.octets ++ k.passed)
    encoded v k =
        let e = k.encodes x.octets (subst (λ m. IsHeader m h.tag h.form h.len x.octets) (sym mode_is) x.is_header) in
        (e.0, subst (λ m. IsEncoding (label m k.left.marked) e.0 (x.octets ++ k.passed)) mode_is e.1)

    mark_is : (r : Result T E) (k : TakesContent why view post c1 h r c2) → c2.marked ≡ (c.marked || k.left.marked)
    mark_is r k = k.marked ∙ ap (λ z. z || k.left.marked) x.unmarked

    module _ (d : Reading) (s : d.stream ≡ c2.stream) (o : d.state ≡ Open) (m : d.marked ≡ c2.marked) (v : T)
        (k : TakesContent why view post c1 h (Ok v) c2) where
      pub taken_value : TakesValue view post asked c v d
      taken_value =
          let r : c1.stream.rest ≡ k.passed ++ d.stream.rest = k.advances.rest ∙ ap (λ z. k.passed ++ z.rest) (sym s) in
          let e = encoded v k in
          record {
            usable = x.usable;
            passed = k.passed;
            front = header_there k.passed d k.advances s;
            handed = k.handed;
            left = k.left;
            hands = subst (λ z. Hands c.mode h.form h.len c1.owed z k.handed) r
                (subst (λ z. Hands z h.form h.len c1.owed c1.stream.rest k.handed) mode_is k.hands);
            answers = k.answers;
            tree = e.0;
            encodes = e.1;
            follows = λ z. ap (λ x. x.rest) s ∙ k.follows z;
            faults_handed = k.faults_handed ∙ x.no_fault;
            faults_left = k.faults_left ∙ ap (λ z. z.faults) (sym s);
            stays = o;
            marked = m ∙ mark_is (Ok v) k;
          }

      pub taken_moves : d.owed ≡ c2.owed → d.kind ≡ c2.kind → d.mode ≡ c2.mode → d.name ≡ c2.name → Moves c d
      taken_moves w ki mo na =
          let e = encoded v k in
          moves_value c d (x.octets ++ k.passed) e.0 k.left.marked (advances_to c c2 d (x.octets ++ k.passed) (both k.passed k.advances) s w ki mo na) e.1
          (λ z. m ∙ mark_is (Ok v) k ∙ or_left c.marked k.left.marked z) (λ z. m ∙ mark_is (Ok v) k ∙ or_right c.marked k.left.marked z) x.usable o

    pub taken_shorter : (v : T) → TakesContent why view post c1 h (Ok v) c2 → length c2.stream.rest + 2 ≤ length c.stream.rest
    taken_shorter v k =
        let z : 2 ≤ length x.octets = header_size c.mode h.tag h.form h.len x.octets x.is_header in
        let f : c.stream.rest ≡ x.octets ++ (k.passed ++ c2.stream.rest) = (header_there k.passed c2 k.advances refl).rest in
        omega (arith, z, ap length f, length-append x.octets (k.passed ++ c2.stream.rest), length-append k.passed c2.stream.rest)

    module _ (e : E) (k : TakesContent why view post c1 h (Err e) c2) where
      pub refused_front : RefusesFront why view post asked c e c2
      refused_front = record {
        usable = x.usable;
        after = c1.stream.rest;
        front = record {
          tag = h.tag;
          form = h.form;
          len = h.len;
          octets = x.octets;
          is_header = x.is_header;
          is_asked = t;
          rest = x.advances.rest;
          owed = c1.owed;
          falls = x.advances.owed;
          fits = x.fits;
        };
        handed = k.handed;
        left = k.left;
        hands = subst (λ z. Hands z h.form h.len c1.owed c1.stream.rest k.handed) mode_is k.hands;
        moves = k.moves;
        faults_handed = k.faults_handed ∙ x.no_fault;
        faults_left = k.faults_left;
        marked = mark_is (Err e) k;
        refuses = k.refuses;
      }

      pub refused_moves : Moves c c2
      refused_moves = moves_failed c c2 (x.octets ++ k.passed) (both k.passed k.advances) (λ z. mark_is (Err e) k ∙ or_left c.marked k.left.marked z)
          (open_not_ended c.state x.usable) (k.state ∙ x.opened)

-- a header that wasn't passed is a value that wasn't taken
pub value_refused : {C T E : Type 0} (why : E → Cause ContentError) (view : C → Reading) (post : Tag → MutBor C → Result T E → MutBor C → Type 0)
    (asked : Asked) (c : Reading) (e : E) (d : Reading) → Refuses why asked (NothingThere asked) ⊥ c e d
    → Refuses why asked (NothingThere asked) (RefusesFront why view post asked c e d) c e d
value_refused why view post asked c e d (refusals.Refuses.failed s o) = refusals.Refuses.failed s o
value_refused why view post asked c e d (refusals.Refuses.source k g) = refusals.Refuses.source k g
value_refused why view post asked c e d (refusals.Refuses.nothing n o) = refusals.Refuses.nothing n o
value_refused why view post asked c e d (refusals.Refuses.otherwise n) = absurd n

-- the form of what is handed is not that at top level
not_unbounded : (f : Bool) (len : Length) (k : ContentForm) → IsFormOf f len k → k ≢ values kind.Unbounded
not_unbounded f Indefinite k h e = (let x : values kind.Indefinite ≡ values kind.Unbounded = sym h ∙ e in cc)
not_unbounded false (Definite n) k h e = (let x : Octets ≡ values kind.Unbounded = sym h ∙ e in cc)
not_unbounded true (Definite n) k h e = (let x : values kind.Definite ≡ values kind.Unbounded = sym h ∙ e in cc)

-- content has no more octets than come behind its header
no_more : (len : Length) (owed o : Option ℕ) (after rest : List ℕ) → ContentOf len owed after o rest → length rest ≤ length after
no_more Indefinite owed o after rest e = omega (arith, ap length e.1)
no_more (Definite n) owed o after rest e = (let l : length (take n after) ≤ length after = grind (arith, common_steps) in omega (arith, l, ap length e.1))

-- what is handed behind a header is inside the content before it
pub inside_entered : (c : Reading) (h : Header) (d i : Reading) (asked : Asked) → IsAsked asked h.tag → Enters c h d
    → Hands d.mode h.form h.len d.owed d.stream.rest i → IsInside asked c h.tag i
inside_entered c h d i asked t x n = record {
  after = d.stream.rest;
  front = header_entered c h d asked t x;
  is = refl;
  hands = subst (λ z. Hands z h.form h.len d.owed d.stream.rest i) x.advances.mode n;
  is_value_tag = x.is_header.is_value_tag;
  state = n.state;
  mode = n.mode ∙ x.advances.mode;
  marked = n.marked;
  bounded = not_unbounded h.form h.len i.kind n.form;
  shorter = (let z : 2 ≤ length x.octets = header_size c.mode h.tag h.form h.len x.octets x.is_header in
      let s : length i.stream.rest ≤ length d.stream.rest = no_more h.len d.owed i.owed d.stream.rest i.stream.rest n.octets in
      omega (arith, z, s, ap length x.advances.rest, length-append x.octets d.stream.rest));
}

-- ---- what the calls say

-- a value of the form that is refused
pub form_answered : {C T X : Type 0} (view : C → Reading) (post : Tag → MutBor C → Result T (DecodeError X) → MutBor C → Type 0) (form : Option Bool)
    (c : Reading) (h : Header) (r : Result (Option T) (DecodeError X)) (d : Reading) → IsErrAnd r IsRefusal → form ≡ Some h.form → d ≡ c
    → TakesBehind view post form c h r d
form_answered view post form c h (Err e) d y f s = of_form e refl f y s
form_answered view post form c h (Ok _) d y f s = elim y [ ]

module _ {C T X : Type 0} (view : C → Reading) (post : Tag → MutBor C → Result T (DecodeError X) → MutBor C → Type 0) (form : Option Bool) (asked : Asked) where
  module _ (c c1 d : Reading) (h : Header) (t : IsAsked asked h.tag) (x : Enters c h c1) (r : Result (Option T) (DecodeError X)) where
    -- a value behind a header that was passed
    pub takes_next : TakesBehind view post form c1 h r d → TakesNext view post form asked c r d
    takes_next (of_form e q f o s) = subst (λ z. TakesNext view post form asked c z d) (sym q) (record {
      value = tt;
      shorter = tt;
      none = tt;
      refused = by_form (x.usable, c1.stream.rest, header_entered c h c1 asked t x, f) o (ap (λ z. z.marked) s ∙ x.unmarked);
      failed = ap (λ z. z.state) s ∙ x.opened;
      mode = ap (λ z. z.mode) s ∙ x.advances.mode;
    })
    takes_next (refused e q k) = subst (λ z. TakesNext view post form asked c z d) (sym q) (record {
      value = tt;
      shorter = tt;
      none = tt;
      refused = by_content (refused_front c c1 d h asked t x cause_of view post e k);
      failed = k.state ∙ x.opened;
      mode = k.advances.mode ∙ x.advances.mode;
    })
    takes_next (taken v m q k s) = subst (λ z. TakesNext view post form asked c z d) (sym q) (record {
      value = taken_value c c1 m h asked t x cause_of view post d (ap (λ z. z.stream) s) (ap (λ z. z.state) s) (ap (λ z. z.marked) s) v k;
      shorter = (let l : length m.stream.rest + 2 ≤ length c.stream.rest = taken_shorter c c1 m h asked t x cause_of view post v k in
          omega (arith, l, ap (λ z. length z.stream.rest) s));
      none = tt;
      refused = tt;
      failed = tt;
      mode = ap (λ z. z.mode) s ∙ k.advances.mode ∙ x.advances.mode;
    })

    pub moves_next : TakesBehind view post form c1 h r d → Moves c d
    moves_next (of_form e q f o s) =
        moves_failed c d x.octets (subst (λ z. Advances c z x.octets) (sym s) x.advances) (λ z. ap (λ z. z.marked) s ∙ x.unmarked ∙ z)
        (open_not_ended c.state x.usable) (ap (λ z. z.state) s ∙ x.opened)
    moves_next (refused e q k) = refused_moves c c1 d h asked t x cause_of view post e k
    moves_next (taken v m q k s) =
        taken_moves c c1 m h asked t x cause_of view post d (ap (λ z. z.stream) s) (ap (λ z. z.state) s) (ap (λ z. z.marked) s) v k (ap (λ z. z.owed) s)
        (ap (λ z. z.kind) s) (ap (λ z. z.mode) s) (ap (λ z. z.name) s)

  module _ (c d : Reading) (mo : d.mode ≡ c.mode) where
    -- there is no value, or no header of one was passed
    pub next_none : HasNone asked c d → TakesNext view post form asked c (Ok None) d
    next_none n = record { value = tt; shorter = tt; none = n; refused = tt; failed = tt; mode = mo }

    pub next_refused : (e : DecodeError X) → Refuses cause_of asked (NothingThere asked) ⊥ c e d → d.marked ≡ c.marked → d.state ≡ Failed
        → TakesNext view post form asked c (Err e) d
    next_refused e h m f = record { value = tt; shorter = tt; none = tt; refused = by_header h m; failed = f; mode = mo }

-- no value stands there of the form that is refused
pub of_either_form : {C T X : Type 0} (view : C → Reading) (post : Tag → MutBor C → Result T (DecodeError X) → MutBor C → Type 0) (form : Option Bool)
    (c : Reading) (h : Header) (r : Result (Option T) (DecodeError X)) (d : Reading) → (form ≡ Some h.form → ⊥) → TakesBehind view post form c h r d
    → TakesBehind view post None c h r d
of_either_form view post form c h r d n (of_form e q f o s) = absurd (n f)
of_either_form view post form c h r d n (refused e q a) = refused e q a
of_either_form view post form c h r d n (taken v m q a s) = taken v m q a s

-- a closure of content alone, which hands it on to one of a tag and content
module _ {C R : Type 0} (view : C → Reading) (post : MutBor C → R → MutBor C → Type 0) where
  pub moves_on : (P : Reading → Type 0) → ((p : MutBor C) (r : R) (q : MutBor C) → P (view p.now) → post p r q → Moves (view p.now) (view q.now))
      → (i : Reading) (r : R) (j : Reading) → P i → Answered view post i r j → Moves i j
  moves_on P k i r j h a =
      let m : Moves (view a.handed.now) (view a.left.now) = k a.handed r a.left (subst P (sym a.handed_is) h) a.called in
      subst (λ z. Moves z j) a.handed_is (subst (λ z. Moves (view a.handed.now) z) a.left_is m)

module _ {C T X : Type 0} (view : C → Reading) (h : Header) (last : Tag → MutBor C → Result T (DecodeError X) → MutBor C → Type 0)
    (post : MutBor C → Result T (DecodeError X) → MutBor C → Type 0)
    (k : (p : MutBor C) (r : Result T (DecodeError X)) (q : MutBor C) → post p r q → Answered view (last h.tag) (view p.now) r (view q.now)) where
  said_of : (i : Reading) (r : Result T (DecodeError X)) (j : Reading) → Answered view post i r j → Answered view (last h.tag) i r j
  said_of i r j a =
      let m = k a.handed r a.left a.called in
      record { handed = m.handed; left = m.left; handed_is = m.handed_is ∙ a.handed_is; left_is = m.left_is ∙ a.left_is; called = m.called }

  said_ok : (i j : Reading) (r : Result T (DecodeError X)) → IfOk r (λ v. AnswersDone {R = Result T (DecodeError X)} view (λ _. post) h.tag i (Ok v) j)
      → IfOk r (λ v. AnswersDone {R = Result T (DecodeError X)} view last h.tag i (Ok v) j)
  said_ok i j (Ok v) a = record {
    left = a.left;
    answered = said_of i (Ok v) a.left a.answered;
    finishes = a.finishes;
    marked = a.marked;
    no_fault = a.no_fault;
    ends = a.ends;
    done = a.done;
  }
  said_ok i j (Err e) a = tt

  said_refused : (i : Reading) (e : DecodeError X) (j : Reading) → RefusesContent cause_of view (λ _. post) h.tag i e j
      → RefusesContent cause_of view last h.tag i e j
  said_refused i e j (by_closure a) = by_closure (said_of i (Err e) j a)
  said_refused i e j (unfinished v l a m k z) = unfinished v l (said_of i (Ok v) l a) m k z

  said_err : (i j : Reading) (r : Result T (DecodeError X)) → IfErr r (λ e. RefusesContent cause_of view (λ _. post) h.tag i e j)
      → IfErr r (λ e. RefusesContent cause_of view last h.tag i e j)
  said_err i j (Ok v) a = tt
  said_err i j (Err e) a = said_refused i e j a

  said_content : (c : Reading) (r : Result T (DecodeError X)) (d : Reading) → TakesContent cause_of view (λ _. post) c h r d
      → TakesContent cause_of view last c h r d
  said_content c r d a = record {
    passed = a.passed;
    advances = a.advances;
    state = a.state;
    handed = a.handed;
    left = a.left;
    marked = a.marked;
    encodes = a.encodes;
    hands = a.hands;
    moves = a.moves;
    follows = a.follows;
    faults_handed = a.faults_handed;
    faults_left = a.faults_left;
    answers = said_ok a.handed a.left r a.answers;
    refuses = said_err a.handed a.left r a.refuses;
  }

  pub said_behind : (form : Option Bool) (c : Reading) (r : Result (Option T) (DecodeError X)) (d : Reading) → TakesBehind view (λ _. post) form c h r d
      → TakesBehind view last form c h r d
  said_behind form c r d (of_form e q f o s) = of_form e q f o s
  said_behind form c r d (refused e q a) = refused e q (said_content c (Err e) d a)
  said_behind form c r d (taken v m q a s) = taken v m q (said_content c (Ok v) m a) s
