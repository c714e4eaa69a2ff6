-- What is inside a constructed value.
use Rattle.std.proofs.Common.{◌≡◌, ◌≢◌, ℕ, Bool, true, false, List, Option, Some, None, refl, sym, ◌∙◌, subst, inl, inr}
use Rattle.std.specs.Prelude.{◌⊎◌, Result, Ok, Err, IfErr}
use Rattle.std.specs.Borrow.{MutBor}
use Rattle.bcder.specs.declared.mode.Mode.{Mode}
use Rattle.bcder.specs.declared.decode.error.DecodeError.{DecodeError}
use Rattle.bcder.specs.x690.Identifier.{Tag}
use Rattle.bcder.specs.x690.Tree.{Tree, primitive, constructed, Trees, no_trees}
use Rattle.bcder.specs.calls.Cause.{cause_of, of_memory, IsRefusal}
use Rattle.bcder.specs.declared.decode.content.State.TheVariants.{Open}
use Rattle.bcder.specs.calls.Content.{HasHeader, Reading, Octets, tagged, Moves, EndsBefore}
use Rattle.bcder.specs.calls.Calls.{Answered, AnswersDone, TakesValue, RefusesFront, RefusesContent, by_closure, unfinished, RefusesEnd, left_failed}
use Rattle.bcder.specs.calls.Calls.{source_failed, left_open}
use Rattle.bcder.specs.calls.Calls.{TakesNext, RefusesTake, by_header, by_form, by_content}
use Rattle.bcder.specs.calls.Walking.{HasValue}
use Rattle.bcder.specs.calls.Valued.{tag_of, HoldsValues, HoldsTree, ReadsTree, RefusesToRead, ReadsContent, ReadsAny, RefusesTree}
use Rattle.bcder.specs.calls.Valued as valued
use Rattle.bcder.specs.laws.Moved.{untouched_is_moved}
use Rattle.bcder.proofs.Lemmas.{IsWithinOwed, as_many_are_no_fewer, done_is_at_its_end, grew_in_between}
use Rattle.bcder.proofs.Lemmas.{header_is_there, refused_behind_header, or_false, next_tree, no_tree, primitive_in_front}
use Rattle.asn1.specs.Memory.{refusal_is_not}
use Rattle.asn1.specs.Types.{AreInside, Only, TakesFields, HoldsNoFields, RefusesFields, ReadsFields, RefusesTyped, TakesNextTyped}
use Rattle.asn1.specs.Types as types
use Rattle.asn1.proofs.Lacking.{header_is_not, end_is_not, fields_lack, next_may}
use Rattle.asn1.proofs.Reading.{failed_holds_none, none_held_at_end, none_not_inside}
use Rattle.bcder.specs.calls.Content as refusals
use Rattle.asn1.proofs.Typed.{next_typed, typed_header}

-- ---- a closure that reads fields, and what the take around it does with what it leaves

-- a borrow of content as clauses see it
seen : {C : Type 0} → (C → Reading) → MutBor C → Reading → MutBor Reading
seen view p i = record { ref_ptr = p.ref_ptr; ghost_name = p.ghost_name; now = i }

module _ {C T X : Type 0} (view : C → Reading) (post : Tag → MutBor C → Result T (DecodeError X) → MutBor C → Type 0) (tag : Tag)
    (Takes : Mode → Trees → T → Trees → Type 0) (lacks : Bool)
    (form : (x : C) → (view x).kind ≢ Octets) (within : (x : C) → IsWithinOwed (view x))
    (reads : (t : Tag) (p : MutBor C) (r : Result T (DecodeError X)) (q : MutBor C) → post t p r q
    → ReadsFields (Takes (view p.now).mode) lacks (view p.now) r (view q.now)) where
  abbrev Inside : Mode → Tree → T → Type 0
  Inside mode = AreInside (Takes mode)

  -- what was read up to the end
  abbrev Whole : Tag → MutBor Reading → Result T (DecodeError X) → MutBor Reading → Type 0
  Whole t p r q = ReadsAny Inside p.now r q.now

  abbrev same : Reading → Reading
  same c = c

  answered_fields : (m : Mode) (t : Tag) (i j : Reading) (r : Result T (DecodeError X)) → Answered {R = Result T (DecodeError X)} view (post t) i r j
      → i.mode ≡ m → ReadsFields (Takes m) lacks i r j
  answered_fields m t i j r a e =
      subst (λ z. ReadsFields (Takes z) lacks i r j) e
      (subst (λ z. ReadsFields (Takes z.mode) lacks z r j) a.handed_is
      (subst (λ z. ReadsFields (Takes (view a.handed.now).mode) lacks (view a.handed.now) r z) a.left_is (reads t a.handed r a.left a.called)))

  left_form : (t : Tag) (i j : Reading) (r : Result T (DecodeError X)) → Answered {R = Result T (DecodeError X)} view (post t) i r j → j.kind ≢ Octets
  left_form t i j r a = subst (λ z. z.kind ≢ Octets) a.left_is (form a.left.now)

  left_within : (t : Tag) (i j : Reading) (r : Result T (DecodeError X)) → Answered {R = Result T (DecodeError X)} view (post t) i r j → IsWithinOwed j
  left_within t i j r a = subst IsWithinOwed a.left_is (within a.left.now)

  later_mode : (l j : Reading) → Moves l j → j.marked ≡ false → j.mode ≡ l.mode
  unfolding Moves
  later_mode l j m e = m.mode e

  -- ---- all was taken

  tree_read : (u : Tag) (i l : Reading) (x : T) (after : List ℕ) → ReadsFields (Takes i.mode) lacks {X = X} i (Ok x) l → l.kind ≢ Octets → EndsBefore l after
      → ReadsTree u (Inside i.mode) i x
  tree_read u i l x after r k e =
      let f : TakesFields (Takes i.mode) i x l = r.value in
      let b = f.before no_trees (none_held_at_end l after k e) in
      record { tree = constructed u b.0; holds = (refl, b.1); means = b.2 }

  module _ (i j : Reading) (t : Tag) (x : T) (u : i.marked ≡ false) (a : AnswersDone {R = Result T (DecodeError X)} view post t i (Ok x) j) where
    fields_read : ReadsFields (Takes i.mode) lacks {X = X} i (Ok x) a.left
    fields_read = answered_fields i.mode t i a.left (Ok x) a.answered refl

    end_marked : j.marked ≡ false
    end_marked = a.marked ∙ fields_read.marked ∙ u

    content_read : (v : Tag) → ReadsContent v (Inside i.mode) {X = X} i (Ok x) j
    content_read v = record {
      value = tree_read v i a.left x j.stream.rest fields_read (left_form t i a.left (Ok x) a.answered) a.ends;
      done = a.done;
      no_fault = a.no_fault ∙ fields_read.no_fault;
      refused = tt;
      mode = later_mode a.left j a.finishes end_marked ∙ fields_read.mode;
      marked = end_marked ∙ sym u;
    }

    whole_answer : Answered {R = Result T (DecodeError X)} same (Whole t) i (Ok x) j
    unfolding seen
    whole_answer = record {
      handed = seen view a.answered.handed i;
      left = seen view a.answered.left j;
      handed_is = refl;
      left_is = refl;
      called = record { at_tag = content_read };
    }

    whole_done : AnswersDone {R = Result T (DecodeError X)} same Whole t i (Ok x) j
    whole_done = record {
      left = j;
      answered = whole_answer;
      finishes = untouched_is_moved j;
      marked = refl;
      no_fault = refl;
      ends = done_is_at_its_end j j.kind refl a.done;
      done = a.done;
    }

  -- ---- it was refused

  module _ (i j : Reading) (t : Tag) (e : DecodeError X) (u : i.marked ≡ false) where
    none_held : (v : Tag) → HoldsNoFields (Takes i.mode) i → (y : Tree) (x : T) → HoldsTree v i y → Inside i.mode y x → ⊥
    none_held v n (primitive w b) x h k = k
    none_held v n (constructed w ts) x h k = n ts no_trees x h.1 k

    fields_refused : RefusesFields (Takes i.mode) lacks i e j → (cause_of e ≡ of_memory) ⊎ ((v : Tag) → RefusesToRead v (Inside i.mode) i e j)
    fields_refused (types.RefusesFields.source s g) = inr (λ v. valued.RefusesToRead.source s g)
    fields_refused (types.RefusesFields.memory s l) = inl s
    fields_refused (types.RefusesFields.broken n a) = inr (λ v. valued.RefusesToRead.nothing (none_held v n) a)

    none_to_the_end : (v : Tag) (l : Reading) (x : T) → TakesFields (Takes i.mode) i x l → (HoldsValues l no_trees → ⊥) → (y : Tree) (z : T) → HoldsTree v i y
        → Inside i.mode y z → ⊥
    none_to_the_end v l x f n (primitive w b) z h k = k
    none_to_the_end v l x f n (constructed w ts) z h k = n (f.behind ts no_trees z h.1 k)

    end_refused : (v : Tag) (l : Reading) (x : T) → IsWithinOwed l → ReadsFields (Takes i.mode) lacks {X = X} i (Ok x) l
        → RefusesEnd cause_of l e j → RefusesToRead v (Inside i.mode) i e j
    end_refused v l x w r (left_failed s a) =
        valued.RefusesToRead.nothing
        (none_to_the_end v l x r.value (failed_holds_none l s _)) a
    end_refused v l x w r (source_failed s g) = valued.RefusesToRead.source s (grew_in_between _ _ _ _ (as_many_are_no_fewer _ _ r.no_fault) g refl)
    end_refused v l x w r (left_open n a) = valued.RefusesToRead.nothing (none_to_the_end v l x r.value (none_not_inside l w n)) a

    refused_marked : RefusesContent cause_of view post t i e j → j.marked ≡ false
    refused_marked (by_closure a) = (answered_fields i.mode t i j (Err e) a refl).marked ∙ u
    refused_marked (unfinished x l a m k z) = k ∙ (answered_fields i.mode t i l (Ok x) a refl).marked ∙ u

    refused_content : RefusesContent cause_of view post t i e j → (cause_of e ≡ of_memory) ⊎ ((v : Tag) → ReadsContent v (Inside i.mode) i (Err e) j)
    refused_content (by_closure a) =
        let r = answered_fields i.mode t i j (Err e) a refl in
        elim (fields_refused r.refused) [
          | inl s ↦ inl s
          | inr q ↦ inr (λ v. record { value = tt; done = tt; no_fault = tt; refused = q v; mode = r.mode; marked = r.marked })
        ]
    refused_content (unfinished x l a m k z) =
        let r = answered_fields i.mode t i l (Ok x) a refl in
        inr (λ v. record {
          value = tt;
          done = tt;
          no_fault = tt;
          refused = end_refused v l x (left_within t i l (Ok x) a) r z;
          mode = later_mode l j m (k ∙ r.marked ∙ u) ∙ r.mode;
          marked = k ∙ r.marked;
        })

    -- where it was so as memory ran out, it may have
    content_lacks : RefusesContent cause_of view post t i e j → cause_of e ≡ of_memory → lacks ≡ true
    content_lacks (by_closure a) m = fields_lack e m (answered_fields i.mode t i j (Err e) a refl).refused
    content_lacks (unfinished x l a k n z) m = absurd (end_is_not e m z)

    refused_turn : RefusesContent cause_of view post t i e j → MutBor C × MutBor C
    refused_turn (by_closure a) = (a.handed, a.left)
    refused_turn (unfinished x l a m k z) = (a.handed, a.left)

    refused_whole : RefusesContent cause_of view post t i e j → (cause_of e ≡ of_memory) ⊎ RefusesContent cause_of same Whole t i e j
    unfolding seen
    refused_whole c =
        let p = refused_turn c in
        elim (refused_content c) [
          | inl s ↦ inl s
          | inr q ↦ inr (by_closure (record {
            handed = seen view p.0 i;
            left = seen view p.1 j;
            handed_is = refl;
            left_is = refl;
            called = record { at_tag = q };
          }))
        ]

  -- ---- what the take says

  module _ (c d : Reading) (w : IsWithinOwed c) where
    whole_value : (x : T) → TakesValue view post (tagged tag) c x d → TakesValue same Whole (tagged tag) c x d
    whole_value x v = record {
      usable = v.usable;
      passed = v.passed;
      front = v.front;
      handed = v.handed;
      left = v.left;
      hands = v.hands;
      answers = whole_done v.handed v.left v.front.tag x v.hands.marked v.answers;
      tree = v.tree;
      encodes = v.encodes;
      follows = v.follows;
      faults_handed = v.faults_handed;
      faults_left = v.faults_left;
      stays = v.stays;
      marked = v.marked;
    }

    whole_front : (e : DecodeError X) → RefusesFront cause_of view post (tagged tag) c e d
        → (cause_of e ≡ of_memory) ⊎ RefusesFront cause_of same Whole (tagged tag) c e d
    whole_front e f = elim (refused_whole f.handed f.left f.front.tag e f.hands.marked f.refuses) [
      | inl s ↦ inl s
      | inr q ↦ inr (record {
        usable = f.usable;
        after = f.after;
        front = f.front;
        handed = f.handed;
        left = f.left;
        hands = f.hands;
        moves = f.moves;
        faults_handed = f.faults_handed;
        faults_left = f.faults_left;
        marked = f.marked;
        refuses = q;
      })
    ]

    not_primitive : (f : (c.state ≡ Open) × (after : List ℕ) × (h : HasHeader (tagged tag) c after) × (Some false ≡ Some h.form)) → (t : Tree) (v rest : List ℕ) (x : T) → HasValue c t v rest × (tag_of t ≡ tag) → Inside c.mode t x → ⊥
    not_primitive f (primitive t b) v rest x h k = k
    not_primitive f (constructed t ts) v rest x h k = primitive_in_front tag c f.1 f.2 (let y : Some false ≡ Some f.2.form = f.3 in cc) t ts v rest h

    refused_form : (e : DecodeError X) → (c.state ≡ Open) × (after : List ℕ) × (h : HasHeader (tagged tag) c after) × (Some false ≡ Some h.form) → IsRefusal e
        → RefusesTree tag (Inside c.mode) c e d
    refused_form e f a =
        refusals.Refuses.nothing (record { usable = f.0; value = not_primitive f; absent = λ rest. header_is_there tag c f.1 rest f.0 f.2 })
        (refused_behind_header (tagged tag) c (cause_of e) a f.1 f.2)

    next_whole : (r : Result (Option T) (DecodeError X)) → TakesNext same Whole None (tagged tag) c r d → TakesNextTyped (Only tag) (Inside c.mode) true c r d
    next_whole r n = next_typed tag (Inside c.mode) c d w r (next_tree same Whole tag Inside (λ t p q z h. h) c d r w n)

    inside_at_most : (r : Result (Option T) (DecodeError X)) → TakesNext view post (Some false) (tagged tag) c r d
        → TakesNextTyped (Only tag) (Inside c.mode) true c r d
    inside_at_most (Ok (Some x)) n =
        next_whole (Ok (Some x)) (record { value = whole_value x n.value; shorter = n.shorter; none = tt; refused = tt; failed = tt; mode = n.mode })
    inside_at_most (Ok None) n = next_typed tag (Inside c.mode) c d w (Ok None) (no_tree tag (Inside c.mode) c d n.mode n.none)
    inside_at_most (Err e) n = by_cause n.refused
      where
        stopped : RefusesTake same Whole None (tagged tag) c e d → TakesNextTyped (Only tag) (Inside c.mode) true c (Err e) d
        stopped q = next_whole (Err e) (record { value = tt; shorter = tt; none = tt; refused = q; failed = n.failed; mode = n.mode })

        no_memory : (f : RefusesFront cause_of view post (tagged tag) c e d) → cause_of e ≡ of_memory
            → TakesNextTyped (Only tag) (Inside c.mode) true c (Err e) d
        no_memory f s = record {
          value = tt;
          none = tt;
          no_fault = tt;
          refused = types.RefusesTyped.memory s refl (typed_header tag c f.after f.front);
          failed = n.failed;
          mode = n.mode;
          marked = f.marked ∙ or_false c.marked f.left.marked (refused_marked f.handed f.left f.front.tag e f.hands.marked f.refuses);
        }

        by_cause : RefusesTake view post (Some false) (tagged tag) c e d → TakesNextTyped (Only tag) (Inside c.mode) true c (Err e) d
        by_cause (by_header h m) = stopped (by_header h m)
        by_cause (by_form f a m) =
            next_typed tag (Inside c.mode) c d w (Err e)
            (record { value = tt; no_fault = tt; refused = (n.failed, refused_form e f a); mode = n.mode; marked = m })
        by_cause (by_content f) = elim (whole_front e f) [ inl s ↦ no_memory f s | inr q ↦ stopped (by_content q) ]

    take_lacks : (e : DecodeError X) → RefusesTake view post (Some false) (tagged tag) c e d → cause_of e ≡ of_memory → lacks ≡ true
    take_lacks e (by_header h k) m = absurd (header_is_not e m h)
    take_lacks e (by_form f a k) m = absurd (refusal_is_not e m a)
    take_lacks e (by_content f) m = content_lacks f.handed f.left f.front.tag e f.hands.marked f.refuses m

    pub next_inside : (r : Result (Option T) (DecodeError X)) → TakesNext view post (Some false) (tagged tag) c r d
        → TakesNextTyped (Only tag) (Inside c.mode) lacks c r d
    next_inside r n = next_may (Only tag) (Inside c.mode) lacks c d r (only_so r n) (inside_at_most r n)
      where
        only_so : (r : Result (Option T) (DecodeError X)) → TakesNext view post (Some false) (tagged tag) c r d
            → IfErr r (λ e. cause_of e ≡ of_memory → true ≡ true → lacks ≡ true)
        only_so (Ok o) n = tt
        only_so (Err e) n = λ m t. take_lacks e n.refused m
