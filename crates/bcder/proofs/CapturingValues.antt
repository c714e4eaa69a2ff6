-- What a capture of the next value, or of all values, holds.
use Rattle.std.proofs.Common.{◌≡◌, ◌≢◌, ℕ, ◌<◌, ◌≤◌, ◌||◌, Bool, true, false, List, [], ◌∷◌, ◌++◌, length, Option, Some, None, refl}
use Rattle.std.proofs.Common.{sym, ap, ◌∙◌, subst, append_assoc, append-nil, length-append, arith, inl, inr}
use Rattle.std.specs.Prelude.{Result, Ok, Err, IsErrAnd, IfOk, IfErr}
use Rattle.std.specs.Borrow.{MutBor}
use Rattle.std.proofs.lemmas.List.{append_cancel_right}
use Rattle.bcder.specs.declared.mode.Mode.{Mode}
use Rattle.bcder.specs.declared.decode.content.Kind.TheVariants as kind
use Rattle.bcder.specs.declared.decode.content.State.TheVariants.{Open, Ended, Failed}
use Rattle.bcder.specs.declared.decode.error.DecodeError.{DecodeError}
use Rattle.bcder.specs.declared.decode.error.ContentError.{ContentError}
use Rattle.bcder.specs.calls.Cause.{Cause, cause_of, of_memory}
use Rattle.bcder.specs.x690.Tree.{Tree}
use Rattle.bcder.specs.x690.Encoding.{IsEncoding, AreEncodings}
use Rattle.bcder.specs.x690.Preorder.{Heading}
use Rattle.bcder.specs.x690.Grammar.{IsOnly}
use Rattle.bcder.specs.calls.Stream.{Grew}
use Rattle.bcder.specs.calls.Captured.{Kept, AreWhole}
use Rattle.bcder.specs.calls.Capturing.{IsCaptureOf, Captures, RefusesCapture, RefusesLeft, by_content, by_source, by_memory}
use Rattle.bcder.specs.calls.Content.{Refuses, failed, source, nothing, otherwise}
use Rattle.bcder.specs.calls.Capturing.{CapturesBy, LeadDeep}
use Rattle.bcder.specs.steps.CaptureSteps.{PassesBy}
use Rattle.bcder.specs.calls.Capturing.{BeginsDeep}
use Rattle.bcder.specs.calls.Capturing.{HasValueOrDeep, of_value, of_depth, HasValuesOrDeep, CapturesValue}
use Rattle.bcder.specs.steps.CaptureSteps.{MetDeep}
use Rattle.bcder.specs.calls.Capturing.{CapturesNext, CapturesValues, HasOthers}
use Rattle.bcder.specs.steps.CaptureSteps.{PassesToEnd}
use Rattle.bcder.specs.calls.Content.{NothingThere, Reading, ContentForm, values, Octets, label, Closes, Moves, Whole, Falls}
use Rattle.bcder.specs.calls.Content.{HasMarker, EndsBefore, IsDone, IsUsedUp, any}
use Rattle.bcder.specs.calls.Calls.{Answered}
use Rattle.bcder.specs.calls.Decoding.{by_closure, left_failed}
use Rattle.bcder.specs.calls.Walking.{HasNoNext, HasNoValue, HasValue, PassesValue, ClosesBefore, HasValues, Walks, RefusesValues}
use Rattle.bcder.specs.calls.Walking.{RefusesOne, GoesDeep}
use Rattle.bcder.specs.calls.Calls.{HasNone}
use Rattle.bcder.specs.steps.Entering.{GoesOn}
use Rattle.bcder.proofs.Moving.{open_not_ended, open_not_failed}
use Rattle.bcder.proofs.Entering.{Within, looked_failed}
use Rattle.bcder.proofs.ContentSteps.{next_refused}
use Rattle.bcder.proofs.Stopping.{walk_stopped}
use Rattle.bcder.proofs.Naming.{Alike, looked_alike, ends_alike, front_named}
use Rattle.bcder.proofs.WalkSteps.{value_not_at_end, moves_faults, grew_from, walks_refused, done_here}

-- ---- the same of content that resembles

capture_alike : (c i : Reading) → IsCaptureOf c i → Alike c i
capture_alike c i h = record { rest = h.rest; owed = h.owed; kind = h.kind; state = h.state; mode = h.mode }

around_alike : (c i : Reading) → IsCaptureOf c i → Alike i c
around_alike c i h = record { rest = sym h.rest; owed = sym h.owed; kind = sym h.kind; state = sym h.state; mode = sym h.mode }

-- content that a closure is handed, and that around it
module _ (c i : Reading) (h : IsCaptureOf c i) where
  value_of : (t : Tree) (w after : List ℕ) → HasValue c t w after → HasValue i t w after
  value_of t w after v = record { usable = h.state ∙ v.usable; encodes = rw h.mode v.encodes; rest = h.rest ∙ v.rest }

  pub no_value_of : HasNoValue i → HasNoValue c
  no_value_of n = record { none = λ t w after v. n.none t w after (value_of t w after v) }

  values_of : HasValues c → HasValues i
  values_of v = record {
    trees = v.trees;
    all = v.all;
    after = v.after;
    encode = rw h.mode v.encode;
    rest = h.rest ∙ v.rest;
    closes = rw (h.kind, h.mode, h.owed) v.closes;
  }

  values_in : HasValues i → HasValues c
  values_in v = record {
    trees = v.trees;
    all = v.all;
    after = v.after;
    encode = subst (λ m. AreEncodings m v.trees v.all) h.mode v.encode;
    rest = sym h.rest ∙ v.rest;
    closes = subst (λ o. ClosesBefore c.kind c.mode o v.all v.after) h.owed
        (subst (λ m. ClosesBefore c.kind m i.owed v.all v.after) h.mode (subst (λ k. ClosesBefore k i.mode i.owed v.all v.after) h.kind v.closes));
  }

  pub others_of : HasOthers i → HasOthers c
  others_of n = record { usable = sym h.state ∙ n.usable; none = λ v. n.none (values_of v) }

-- what is refused of the content inside is refused of that around it
where_of : {X : Type 0} (P Q : Reading → Type 0) (D E : Type 0) (c i j d : Reading) → (P i → Q c) → (D → E) → (e : DecodeError X) → Alike c i
    → i.stream.faults ≡ c.stream.faults → d.stream.faults ≡ j.stream.faults → Refuses cause_of any P D i e j → Refuses cause_of any Q E c e d
where_of P Q D E c i j d f g e s a b (failed x o) = failed (sym s.state ∙ x) o
where_of P Q D E c i j d f g e s a b (source k y) = source k (rw (← a, b) y)
where_of P Q D E c i j d f g e s a b (nothing n o) = nothing (f n) (front_named c i s (cause_of e) o)
where_of P Q D E c i j d f g e s a b (otherwise n) = otherwise (g n)

pub end_has_none : (c d : Reading) → Within c → EndsBefore c d.stream.rest → HasNoValue c
end_has_none c d w e = record { none = λ t v after h. value_not_at_end c w t v after h d.stream.rest e }

-- ---- a closure whose steps are captured

or_false : (a : Bool) → (a || false) ≡ a
or_false true = refl
or_false false = refl

module _ {C X : Type 0} (view : C → Reading) (post : MutBor C → Result (Unit {0}) (DecodeError X) → MutBor C → Type 0) (Q : Reading → Reading → Type 0)
    (HasNone IsDeep HasSome : Reading → Type 0)
    (law : (p : MutBor C) (r : Result (Unit {0}) (DecodeError X)) (q : MutBor C) → post p r q → PassesBy Q HasNone IsDeep (view p.now) r (view q.now))
    (around : (c i : Reading) → IsCaptureOf c i → HasNone i → HasNone c) (usable : (i j : Reading) → Q i j → j.state ≢ Failed)
    (deep_around : (c i : Reading) → IsCaptureOf c i → IsDeep i → HasSome c)
    (some_around : (c i j : Reading) → IsCaptureOf c i → Moves i j → Q i j → length j.stream.rest < length i.stream.rest → HasSome c) where
  did : (i j : Reading) (r : Result (Unit {0}) (DecodeError X)) → Answered {R = Result (Unit {0}) (DecodeError X)} view post i r j
      → PassesBy Q HasNone IsDeep i r j
  did i j r a = subst (λ z. PassesBy Q HasNone IsDeep i r z) a.left_is
      (subst (λ z. PassesBy Q HasNone IsDeep z r (view a.left.now)) a.handed_is (law a.handed r a.left a.called))

  left_mark : (i j : Reading) (e : DecodeError X) (n : ℕ) → RefusesLeft view post i e j n → j.marked ≡ i.marked
  left_mark i j e n (by_content (by_closure a) f) = (did i j (Err e) a).marked
  left_mark i j e n (by_content (left_failed x a s o) f) = (did i j (Ok x) a).marked
  left_mark i j e n (by_source a u k g) = (did i j (Ok tt) a).marked
  left_mark i j e n (by_memory a u k s f) = (did i j (Ok tt) a).marked

  refused_left : (c i j d : Reading) (e : DecodeError X) → IsCaptureOf c i → Moves i j → RefusesLeft view post i e j d.stream.faults
      → Refuses cause_of any HasNone ((cause_of e ≡ of_memory) × HasSome c) c e d
  refused_left c i j d e h v (by_content (by_closure a) f) =
      where_of _ _ _ _ c i j d (around c i h) (λ x. (x.0, deep_around c i h x.1)) e (capture_alike c i h) h.faults f (did i j (Err e) a).refused
  refused_left c i j d e h v (by_content (left_failed x a s o) f) = absurd (usable i j (did i j (Ok x) a).passed s)
  refused_left c i j d e h v (by_source a u k g) = source k (subst (λ z. Grew z d.stream.faults) ((did i j (Ok tt) a).no_fault ∙ h.faults) g)
  refused_left c i j d e h v (by_memory a u k s f) = otherwise (k, some_around c i j h v (did i j (Ok tt) a).passed s)

  mark_of : (c d i j : Reading) → i.marked ≡ false → j.marked ≡ i.marked → d.marked ≡ (c.marked || j.marked) → d.marked ≡ c.marked
  mark_of c d i j f s m = m ∙ ap (λ z. c.marked || z) (s ∙ f) ∙ or_false c.marked

  module _ (P : Reading → Kept → Reading → Type 0) (c d : Reading)
      (holds : (k : Kept) (h : Captures view post c k d) → Q h.handed h.left → h.left.marked ≡ false → P c k d) where
    pub captures_by : (r : Result Kept (DecodeError X)) → IfOk r (λ k. Captures view post c k d) → IfErr r (λ e. RefusesCapture view post c e d)
        → d.mode ≡ c.mode → CapturesBy P HasNone HasSome c r d
    captures_by (Ok k) h n m =
        let s = did h.handed h.left (Ok tt) h.answered in
        record {
          value = holds k h s.passed (s.marked ∙ h.hands.marked);
          no_fault = h.faults ∙ s.no_fault ∙ h.hands.faults;
          refused = tt;
          mode = m;
          marked = mark_of c d h.handed h.left h.hands.marked s.marked h.marked;
        }
    captures_by (Err e) h n m = record {
      value = tt;
      no_fault = tt;
      refused = (refused_left c n.handed n.left d e n.hands n.moves n.refuses, n.rest, n.owed, n.state);
      mode = m;
      marked = mark_of c d n.handed n.left n.hands.marked (left_mark n.handed n.left e d.stream.faults n.refuses) n.marked;
    }

-- ---- one value

closed_by_none : (m : Mode) (c d : Reading) (e : List ℕ) → d.state ≡ Open → Closes m c e d → e ≡ []
closed_by_none m c d e o (inl h) = h.0
closed_by_none m c d e o (inr h) = absurd (open_not_ended d.state o h.3)

only_at : (m n : Mode) (t : Tree) (v w x y : List ℕ) → m ≡ n → v ≡ w → x ≡ y → IsOnly m t v x → IsOnly n t w y
only_at m n t v w x y a b c h = subst (λ z. IsOnly n t w z) c (subst (λ z. IsOnly n t z x) b (subst (λ z. IsOnly z t v x) a h))

pub value_usable : (i j : Reading) → PassesValue i j → j.state ≢ Failed
value_usable i j h = open_not_failed j.state h.stays

pub holds_value : {C X : Type 0} (view : C → Reading) (post : MutBor C → Result (Unit {0}) (DecodeError X) → MutBor C → Type 0) (c d : Reading) (k : Kept)
    (h : Captures view post c k d) → PassesValue h.handed h.left → h.left.marked ≡ false → CapturesValue c k d
holds_value view post c d k h v f =
    let o : d.state ≡ Open = h.state ∙ v.stays in
    let z : h.holds.close ≡ [] = closed_by_none k.mode c d h.holds.close o h.holds.closes in
    let r : c.stream.rest ≡ k.octets ++ d.stream.rest = h.holds.rest ∙ ap (λ y. k.octets ++ (y ++ d.stream.rest)) z in
    let e : v.value ≡ k.octets = append_cancel_right v.value k.octets d.stream.rest (ap (λ y. v.value ++ y) h.rest ∙ sym v.has.rest ∙ h.hands.rest ∙ r) in
    record {
      tree = v.tree;
      has = record {
        usable = sym h.hands.state ∙ v.has.usable;
        encodes = subst (λ y. IsEncoding c.mode v.tree y) e (subst (λ y. IsEncoding y v.tree v.value) h.hands.mode v.has.encodes);
        rest = r;
      };
      only = only_at h.handed.mode c.mode v.tree v.value k.octets h.handed.stream.rest c.stream.rest h.hands.mode e h.hands.rest v.only;
      mode = h.mode ∙ ap (λ z. label c.mode z) f;
      start = h.start;
      stays = o;
    }

-- ---- the next value, if there is one

-- content c, failed
abbrev pub as_failed : Reading → Reading
as_failed c = record { stream = c.stream; owed = c.owed; kind = c.kind; state = Failed; mode = c.mode; marked = c.marked; name = c.name }

-- content c that goes on, and i as it was looked at
module _ (c i : Reading) (g : GoesOn c i) where
  value_looked : (t : Tree) (w after : List ℕ) → HasValue c t w after → HasValue i t w after
  value_looked t w after v = record { usable = g.same.state ∙ v.usable; encodes = rw g.same.mode v.encodes; rest = g.same.rest ∙ v.rest }

  value_first : (t : Tree) (w after : List ℕ) → HasValue i t w after → HasValue c t w after
  value_first t w after v = record { usable = g.usable; encodes = subst (λ m. IsEncoding m t w) g.same.mode v.encodes; rest = sym g.same.rest ∙ v.rest }

  none_first : HasNoValue i → HasNoNext c
  none_first n = record { usable = g.usable; some = g.some; none = record { none = λ t w after v. n.none t w after (value_looked t w after v) } }

  some_first : HasValueOrDeep i → HasValueOrDeep c
  some_first (of_value t w after v) = of_value t w after (value_first t w after v)
  some_first (of_depth u s l) =
      of_depth g.usable g.some (subst (λ m. LeadDeep m c.stream.rest) g.same.mode (subst (LeadDeep i.mode) g.same.rest l))

  captured_first : (k : Kept) (d : Reading) → CapturesValue i k d → CapturesValue c k d
  captured_first k d h = record {
    tree = h.tree;
    has = value_first h.tree k.octets d.stream.rest h.has;
    only = only_at i.mode c.mode h.tree k.octets k.octets i.stream.rest c.stream.rest g.same.mode refl g.same.rest h.only;
    mode = h.mode ∙ g.same.mode;
    start = h.start ∙ g.position;
    stays = h.stays;
  }

  module _ {X : Type 0} (f : i.stream.faults ≡ c.stream.faults) (d : Reading) where
    pub next_captured : (k : Kept) → CapturesBy {X = X} CapturesValue HasNoValue HasValueOrDeep i (Ok k) d → CapturesNext {X = X} c (Ok (Some k)) d
    next_captured k h = record {
      value = captured_first k d h.value;
      no_fault = h.no_fault ∙ f;
      refused = tt;
      mode = h.mode ∙ g.same.mode;
      marked = h.marked ∙ g.same.marked;
    }

    -- a value was refused, and then content failed
    module _ (e : DecodeError X) (h : CapturesBy {X = X} CapturesValue HasNoValue HasValueOrDeep i (Err e) d) where
      pub next_failed : CapturesNext {X = X} c (Err e) (as_failed d)
      next_failed = record {
        value = tt;
        no_fault = tt;
        refused = (refl, where_of _ _ _ _ c i d (as_failed d) none_first (λ x. (x.0, some_first x.1)) e (looked_alike c i g.same) f refl h.refused.0);
        mode = h.mode ∙ g.same.mode;
        marked = h.marked ∙ g.same.marked;
      }

      pub failed_moves : Moves d (as_failed d)
      failed_moves = looked_failed d d (record { rest = refl; kept = refl; owed = refl; kind = refl; state = refl; mode = refl; marked = refl; name = refl })
          (let z : d.stream.faults ≤ d.stream.faults = omega arith in z) (as_failed d)
          (h.refused.3 ∙ g.same.state ∙ g.usable) refl refl refl refl refl refl refl

pub next_ended : {X : Type 0} (c d : Reading) → HasNone any c d → d.mode ≡ c.mode → CapturesNext {X = X} c (Ok None) d
next_ended c d n m = record {
  value = n;
  no_fault = n.no_fault;
  refused = tt;
  mode = m;
  marked = n.marked;
}

-- no header comes next
pub next_stopped : {S X : Type 0} (why : S → Cause ContentError) (s : S) (e : DecodeError X) (c d : Reading) → Within c → cause_of e ≡ why s
    → Refuses why any (NothingThere any) ⊥ c s d → d.state ≡ Failed → d.mode ≡ c.mode → d.marked ≡ c.marked → CapturesNext {X = X} c (Err e) d
next_stopped why s e c d w k h f m a = record {
  value = tt;
  no_fault = tt;
  refused = (f, walked (walk_stopped why cause_of s e k c d (next_refused why c d s w h)));
  mode = m;
  marked = a;
}
  where
    walked : Refuses cause_of any HasNoNext ⊥ c e d → Refuses cause_of any HasNoNext ((cause_of e ≡ of_memory) × HasValueOrDeep c) c e d
    walked (failed x o) = failed x o
    walked (source x y) = source x y
    walked (nothing n o) = nothing n o
    walked (otherwise n) = absurd n

-- ---- all values

falls_to_none : (o : Option ℕ) (n : ℕ) → Falls o n (Some 0) → o ≡ Some n
falls_to_none None n f = absurd (f refl)
falls_to_none (Some m) n f = ap Some (let e : m ≡ n = omega arith in e)

both_empty : (v w : List ℕ) → v ++ w ≡ [] → v ≡ []
both_empty [] w e = refl
both_empty (b ∷ v) w e = absurd (let l = ap length e in omega arith)

-- content is at its end where it was passed to it
done_of : (c i : Reading) → c.state ≡ i.state → c.kind ≡ i.kind → c.owed ≡ i.owed → c.stream.rest ≡ i.stream.rest → IsDone i → IsDone c
done_of c i s k o r (inl e) = inl (s ∙ e)
done_of c i s k o r (inr e) = inr (
  s ∙ e.0,
  subst (λ z. IsUsedUp z c.owed c.stream.rest) (sym k)
      (subst (λ z. IsUsedUp i.kind z c.stream.rest) (sym o) (subst (λ z. IsUsedUp i.kind i.owed z) (sym r) e.1)),
)

pub end_usable : (i j : Reading) → PassesToEnd i j → j.state ≢ Failed
end_usable i j h e = elim h.done [ inl x ↦ (let y : Ended ≡ Failed = sym x ∙ e in cc) | inr x ↦ (let y : Open ≡ Failed = sym x.0 ∙ e in cc) ]

module _ {C X : Type 0} (view : C → Reading) (post : MutBor C → Result (Unit {0}) (DecodeError X) → MutBor C → Type 0) (c d : Reading) (k : Kept)
    (h : Captures view post c k d) (form : c.kind ≢ Octets) (m : Moves c d) (q : PassesToEnd h.handed h.left) (f : h.left.marked ≡ false) where
  same_mode : k.mode ≡ c.mode
  same_mode = h.mode ∙ ap (λ z. label c.mode z) f

  same_kind : d.kind ≡ h.left.kind
  unfolding Moves
  same_kind = m.kind ∙ sym h.hands.kind ∙ sym h.moves.kind

  is_done : IsDone d
  is_done = done_of d h.left h.state same_kind h.owed h.rest q.done

  all_passed : (p : List ℕ) → c.stream.rest ≡ p ++ d.stream.rest → p ≡ k.octets ++ h.holds.close
  all_passed p e = append_cancel_right p (k.octets ++ h.holds.close) d.stream.rest
      (sym e ∙ h.holds.rest ∙ sym (append_assoc k.octets h.holds.close d.stream.rest))

  fell : Falls c.owed (length (k.octets ++ h.holds.close)) d.owed
  unfolding Moves
  fell = subst (λ p. Falls c.owed (length p) d.owed) (all_passed m.passed m.rest) m.owed

  no_values : c.state ≡ Ended → k.octets ≡ []
  unfolding Moves
  no_values e = both_empty k.octets h.holds.close (sym (all_passed m.passed m.rest) ∙ (m.ended e).1)

  -- only content of indefinite length ends by a marker
  ended_by : c.state ≡ Open → d.state ≡ Ended → c.kind ≡ values kind.Indefinite
  unfolding Moves
  ended_by o e = elim (m.ends e) [ inl x ↦ absurd (open_not_ended c.state o x) | inr x ↦ x ]

  marked_by : c.state ≡ Open → d.state ≡ Ended → HasMarker c.mode (h.holds.close ++ d.stream.rest) d.stream.rest
  marked_by o e = elim h.holds.closes
      [ inl x ↦ absurd (open_not_ended c.state o (sym x.1 ∙ e)) | inr x ↦ record { marker = h.holds.close; is_end = rw (← same_mode) x.0; rest = refl } ]

  used_up : (g : ContentForm) → d.kind ≡ g → g ≢ values kind.Indefinite → c.state ≡ Open → c.kind ≡ g → (d.state ≡ Open) × IsUsedUp g d.owed d.stream.rest
  used_up g e n o ck = elim is_done [ inl x ↦ absurd (n (sym ck ∙ ended_by o x)) | inr x ↦ (x.0, subst (λ z. IsUsedUp z d.owed d.stream.rest) e x.1) ]

  unmarked_close : d.state ≡ Open → h.holds.close ≡ []
  unmarked_close o = closed_by_none k.mode c d h.holds.close o h.holds.closes

  of_kind : {g : ContentForm} → c.kind ≡ g → d.kind ≡ g
  unfolding Moves
  of_kind e = m.kind ∙ e

  closes_before : (g : ContentForm) → c.kind ≡ g → c.state ≡ Open → ClosesBefore g c.mode c.owed k.octets (h.holds.close ++ d.stream.rest)
  closes_before Octets e o = absurd (form e)
  closes_before (values kind.Definite) e o =
      let u = used_up (values kind.Definite) (of_kind e) (λ z. cc) o e in
      let w : Falls c.owed (length (k.octets ++ h.holds.close)) (Some 0) = subst (λ z. Falls c.owed (length (k.octets ++ h.holds.close)) z) u.1 fell in
      falls_to_none c.owed (length (k.octets ++ h.holds.close)) w
      ∙ ap (λ z. Some (length z)) (ap (λ z. k.octets ++ z) (unmarked_close u.0) ∙ append-nil k.octets)
  closes_before (values kind.Indefinite) e o =
      elim is_done [ inl x ↦ (d.stream.rest, marked_by o x) | inr x ↦ absurd (subst (λ z. IsUsedUp z d.owed d.stream.rest) (of_kind e) x.1) ]
  closes_before (values kind.Unbounded) e o =
      let u = used_up (values kind.Unbounded) (of_kind e) (λ z. cc) o e in
      ap (λ z. z ++ d.stream.rest) (unmarked_close u.0) ∙ u.1

  pub holds_values : CapturesValues c k d
  holds_values = record {
    whole = subst (λ z. AreWhole z k.octets) same_mode h.holds.whole;
    close = h.holds.close;
    rest = h.holds.rest;
    closes = subst (λ z. Closes z c h.holds.close d) same_mode h.holds.closes;
    are_all = λ o. closes_before c.kind refl o;
    are_none = no_values;
    done = is_done;
    mode = same_mode;
    start = h.start;
  }

-- ---- what a capture wants memory for

leads_deep : (c d : Reading) → GoesDeep c d → LeadDeep c.mode c.stream.rest
leads_deep c d g = record { calls = g.calls; last = g.last; some = g.were.some; stand = g.were.stand; constructed = g.constructed; deep = g.deep }

not_none : (calls : List Heading) (h : Heading) → calls ++ h ∷ [] ≡ [] → ⊥
not_none [] h e = cc
not_none (k ∷ calls) h e = cc

-- content that goes deep is open, and not at its end
deep_usable : (c d : Reading) → GoesDeep c d → (c.state ≡ Open) × ((after : List ℕ) → EndsBefore c after → ⊥)
deep_usable c d g = g.were.usable (not_none g.calls g.last)

pub begins_deep : (c d : Reading) → GoesDeep c d → BeginsDeep c
begins_deep c d g = record { usable = (deep_usable c d g).0; some = (deep_usable c d g).1; leads = leads_deep c d g }

pub one_refused : {X : Type 0} (c d : Reading) (e : DecodeError X) → RefusesOne cause_of c e d
    → Refuses cause_of any HasNoValue ((cause_of e ≡ of_memory) × BeginsDeep c) c e d
one_refused c d e (failed s a) = failed s a
one_refused c d e (source s f) = source s f
one_refused c d e (nothing n a) = nothing n.none a
one_refused c d e (otherwise g) = otherwise (g.0, begins_deep c d g.1)

leads_of : (c i : Reading) → IsCaptureOf c i → LeadDeep i.mode i.stream.rest → LeadDeep c.mode c.stream.rest
leads_of c i h x = subst (λ m. LeadDeep m c.stream.rest) h.mode (subst (LeadDeep i.mode) h.rest x)

pub one_deep : (c i : Reading) → IsCaptureOf c i → BeginsDeep i → HasValueOrDeep c
one_deep c i h b = of_depth (sym h.state ∙ b.usable) (λ after e. b.some after (ends_alike i c (around_alike c i h) after e)) (leads_of c i h b.leads)

pub one_kept : (c i j : Reading) → IsCaptureOf c i → Moves i j → PassesValue i j → length j.stream.rest < length i.stream.rest → HasValueOrDeep c
one_kept c i j h m p l = of_value p.tree p.value j.stream.rest (record {
  usable = sym h.state ∙ p.has.usable;
  encodes = subst (λ z. IsEncoding z p.tree p.value) h.mode p.has.encodes;
  rest = sym h.rest ∙ p.has.rest;
})

none_fell : (o p : Option ℕ) (k : ℕ) → o ≡ Some 0 → Falls o k p → (k ≡ 0) × (p ≡ Some 0)
none_fell None p k e f = (let x : ◌≡◌ {A = Option ℕ} None (Some 0) = e in cc)
none_fell (Some m) None k e f = absurd (f refl)
none_fell (Some m) (Some n) k e f = (let z : m ≡ 0 = some_of m 0 e in (omega arith, ap Some (omega arith)))
  where
    some_of : (m n : ℕ) → ◌≡◌ {A = Option ℕ} (Some m) (Some n) → m ≡ n
    some_of m n e = cc

-- of octets that are used up none is passed, and they stay so
none_passed : (f : ContentForm) (o p : Option ℕ) (w v x : List ℕ) → IsUsedUp f o w → w ≡ v ++ x → Falls o (length v) p → (length v ≡ 0) × IsUsedUp f p x
none_passed Octets o p w v x u e f = none_fell o p (length v) u f
none_passed (values kind.Definite) o p w v x u e f = none_fell o p (length v) u f
none_passed (values kind.Indefinite) o p w v x u e f = absurd u
none_passed (values kind.Unbounded) o p w v x u e f = (let z = both_empty v x (sym e ∙ u) in (ap length z, ap (λ y. y ++ x) (sym z) ∙ sym e ∙ u))

pub done_passes_none : (i j : Reading) → Moves i j → IsDone i → length j.stream.rest < length i.stream.rest → ⊥
unfolding Moves
done_passes_none i j m d l = elim d [
  | inl e ↦ (let z : length m.passed ≡ 0 = ap length ((m.ended e).1) in omega (arith, z, l, ap length m.rest, length-append m.passed j.stream.rest))
  | inr u ↦ (let z = none_passed i.kind i.owed j.owed i.stream.rest m.passed j.stream.rest u.1 m.rest m.owed in
      omega (arith, z.0, l, ap length m.rest, length-append m.passed j.stream.rest))
]

done_stays : (i j : Reading) → Moves i j → j.state ≡ Open → IsDone i → IsDone j
unfolding Moves
done_stays i j m o d = elim d [
  | inl e ↦ inl ((m.ended e).0)
  | inr u ↦ inr
      (o, subst (λ f. IsUsedUp f j.owed j.stream.rest) (sym m.kind) (none_passed i.kind i.owed j.owed i.stream.rest m.passed j.stream.rest u.1 m.rest m.owed).1)
]

-- content that is passed on, and hasn't failed then, was open
opened : (i j : Reading) → Moves i j → j.state ≢ Failed → length j.stream.rest < length i.stream.rest → i.state ≡ Open
unfolding Moves
opened i j m u l = go i.state refl
  where
    go : (s : _) → i.state ≡ s → i.state ≡ Open
    go Open e = e
    go Ended e = absurd (done_passes_none i j m (inl e) l)
    go Failed e = absurd (u (m.failed e))

pub all_kept : (c i j : Reading) → IsCaptureOf c i → Moves i j → PassesToEnd i j → length j.stream.rest < length i.stream.rest → HasValuesOrDeep c
all_kept c i j h m p l =
    let o : i.state ≡ Open = opened i j m (end_usable i j p) l in
    record {
      usable = sym h.state ∙ o;
      some = λ d. done_passes_none i j m (done_of i c h.state h.kind h.owed h.rest d) l;
      there = inl (values_in c i h (p.all o));
    }

-- ---- a loop that passes all values

-- content that was open stays so while values are passed
still_open : (i j : Reading) → Walks i j → j.state ≡ Open → i.state ≡ Open
unfolding Moves
still_open i j w o = go i.state refl
  where
    go : (s : _) → i.state ≡ s → i.state ≡ Open
    go Open e = e
    go Ended e = absurd (open_not_ended j.state o ((w.moves.ended e).0))
    go Failed e = absurd (open_not_failed j.state o (w.moves.failed e))

pub all_deep : (c i : Reading) → IsCaptureOf c i → MetDeep i → HasValuesOrDeep c
unfolding Moves
all_deep c i h b =
    let j = b.at in
    let u = deep_usable j b.left b.deep in
    let w : Whole (label i.mode j.marked) i b.walks.moves.passed j = b.walks.moves.whole (open_not_failed j.state u.0) b.form in
    let m : label i.mode j.marked ≡ c.mode = ap (λ z. label i.mode z) (b.walks.marked ∙ h.marked) ∙ h.mode in
    record {
      usable = sym h.state ∙ still_open i j b.walks u.0;
      some = λ d. u.1 j.stream.rest (done_here j j.kind refl (done_stays i j b.walks.moves u.0 (done_of i c h.state h.kind h.owed h.rest d)));
      there = inr (record {
        values = w.trees;
        front = w.values;
        behind = j.stream.rest;
        encode = subst (λ z. AreEncodings z w.trees w.values) m w.encodes;
        is = sym h.rest ∙ b.walks.moves.rest
            ∙ ap (λ z. z ++ j.stream.rest) (w.split ∙ ap (λ z. w.values ++ z) (closed_by_none _ i j w.close u.0 w.closes) ∙ append-nil w.values);
        leads = subst (λ z. LeadDeep z j.stream.rest) (b.walks.mode ∙ h.mode) (leads_deep j b.left b.deep);
      });
    }

others_left : {X : Type 0} (e : DecodeError X) (i k : Reading) → i.kind ≢ Octets → i.state ≡ Open → RefusesValues cause_of i e k
    → Refuses cause_of any HasOthers ((cause_of e ≡ of_memory) × MetDeep i) i e k
others_left e i k form o (failed f a) = failed f a
others_left e i k form o (source s f) = source s f
others_left e i k form o (nothing n a) = nothing (record { usable = o; none = n.1 }) a
others_left e i k form o (otherwise x) = absurd (form x.0)

loop_refused : {X : Type 0} (e : DecodeError X) (i j k : Reading) → i.kind ≢ Octets → Walks i j → Refuses cause_of any HasNoNext ⊥ j e k
    → Refuses cause_of any HasOthers ((cause_of e ≡ of_memory) × MetDeep i) i e k
loop_refused e i j k form w (failed f a) = failed (w.failed f) a
loop_refused e i j k form w (source s f) = source s (grew_from _ _ _ (moves_faults i j w.moves) f)
loop_refused e i j k form w (nothing n a) = others_left e i k form (still_open i j w n.usable) (walks_refused cause_of e i j k form w (nothing n a))
loop_refused e i j k form w (otherwise n) = absurd n

pub loop_refused_one : {X : Type 0} (e : DecodeError X) (i j k : Reading) → i.kind ≢ Octets → Walks i j → RefusesOne cause_of j e k
    → Refuses cause_of any HasOthers ((cause_of e ≡ of_memory) × MetDeep i) i e k
loop_refused_one e i j k form w (otherwise g) = otherwise (g.0, record { form = form; at = j; left = k; walks = w; deep = g.1 })
loop_refused_one e i j k form w (failed f a) = loop_refused e i j k form w (failed f a)
loop_refused_one e i j k form w (source s f) = loop_refused e i j k form w (source s f)
loop_refused_one e i j k form w (nothing n a) = loop_refused e i j k form w (nothing n a)

-- the loop answers the error that it met
pub pass_refused : {T X : Type 0} (c d : Reading) (r : Result T (DecodeError X)) (e : DecodeError X) → IsErrAnd r (λ x. x ≡ e)
    → Refuses cause_of any HasOthers ((cause_of e ≡ of_memory) × MetDeep c) c e d → d.marked ≡ c.marked → PassesBy PassesToEnd HasOthers MetDeep c r d
pass_refused c d (Ok x) e h a g = absurd h
pass_refused c d (Err x) e h a g =
    record {
      passed = tt;
      no_fault = tt;
      refused = subst (λ y. Refuses cause_of any HasOthers ((cause_of y ≡ of_memory) × MetDeep c) c y d) (sym h) a;
      marked = g;
    }
