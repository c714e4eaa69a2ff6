-- Values that are taken by readers of contents octets.
use Rattle.std.proofs.Common.{◌≡◌, ◌<◌, ℕ, Bool, true, false, List, ◌++◌, length, take, drop, Option, Some, None, refl, ap, sym, ◌∙◌}
use Rattle.std.proofs.Common.{arith, length-append, append_assoc, take-append-drop, subst, inl, inr}
use Rattle.std.specs.Prelude.{◌||◌, Result, Ok, Err}
use Rattle.std.specs.Borrow.{MutBor}
use Rattle.std.proofs.lemmas.List.{take_at}
use Rattle.bcder.specs.declared.mode.Mode.{Mode}
use Rattle.bcder.specs.declared.length.Length.{Length}
use Rattle.bcder.specs.declared.length.Length.TheVariants.{Definite, Indefinite}
use Rattle.bcder.specs.declared.decode.content.State.TheVariants.{Open}
use Rattle.bcder.specs.declared.decode.error.DecodeError.{DecodeError}
use Rattle.bcder.specs.x690.Identifier.{AreOctets, Tag}
use Rattle.bcder.specs.x690.Tree.{Tree, primitive, constructed}
use Rattle.bcder.specs.x690.Encoding.{IsHeader, IsEncoding}
use Rattle.bcder.specs.calls.Valued.{tag_of, HasNoTree, TakesTree}
use Rattle.bcder.specs.calls.Stream.{Stream, IsSound}
use Rattle.bcder.specs.declared.decode.content.Primitive.{Primitive}
use Rattle.bcder.specs.declared.decode.content.Constructed.{Constructed}
use Rattle.bcder.specs.calls.Views.{of_constructed, of_primitive}
use Rattle.bcder.specs.calls.Cause.{cause_of}
use Rattle.bcder.specs.declared.decode.content.Kind.TheVariants as kind
use Rattle.bcder.specs.calls.Content.{Reading, ContentForm, Octets, any, tagged, label, values}
use Rattle.bcder.specs.calls.Content.{HasHeader, IsAbsent, IsElsewhere, none_left, other, marker, of_octets}
use Rattle.bcder.specs.calls.Calls.{Hands, IsFormOf, ContentOf, Answered, TakesValue, RefusesFront, RefusesContent, by_closure}
use Rattle.bcder.specs.calls.Calls.{unfinished, RefusesEnd, left_failed, source_failed, left_open}
use Rattle.bcder.specs.calls.Calls.{OneBy, NextBy, HasNone, TakesNext, Takes, RefusesTake, by_header, by_form, by_content}
use Rattle.bcder.specs.calls.Walking.{HasValue}
use Rattle.bcder.specs.calls.Readers.{Reads, RefusesReading}
use Rattle.bcder.specs.calls.Readers as readers
use Rattle.bcder.specs.calls.Valued.{InPrimitive, RefusesAs, PassesNextBy}
use Rattle.bcder.specs.steps.Entering.{HasForm}
use Rattle.bcder.specs.laws.Complete.{one_header}
use Rattle.bcder.specs.laws.Sound.{AreOctets-take}
use Rattle.bcder.specs.laws.Stands.{AreOctets-after}
use Rattle.bcder.proofs.Moving.{open_not_ended, open_not_failed}
use Rattle.bcder.proofs.SameBorrow.{within_constructed}
use Rattle.bcder.proofs.Headers.{Shape, is_primitive, is_definite, is_indefinite, front_of_header, no_header_empty, header_no_marker, no_other_front}
use Rattle.bcder.proofs.Entering.{Within, no_fewer}
use Rattle.bcder.proofs.WalkSteps.{owed_after, shape_in, short_front, grew_between}
use Rattle.bcder.specs.calls.Content as refusals
use Rattle.bcder.proofs.Naming.{behind_header}

-- a header of the tag, as one of any
abbrev any_of : (tag : Tag) (c : Reading) (after : List ℕ) → HasHeader (tagged tag) c after → HasHeader any c after
any_of tag c after f = record {
  tag = f.tag;
  form = f.form;
  len = f.len;
  octets = f.octets;
  is_header = f.is_header;
  is_asked = refl;
  rest = f.rest;
  owed = f.owed;
  falls = f.falls;
  fits = f.fits;
}

-- where a value of the tag stands in front, its header does
primitive_header : (tag : Tag) (c : Reading) → Within c → (contents w rest : List ℕ) → HasValue c (primitive tag contents) w rest
    → (x : List ℕ) × HasHeader (tagged tag) c x
primitive_header tag c within contents w rest h =
    let d = h.encodes.1 in
    let e : c.stream.rest ≡ d.header ++ (contents ++ rest) = h.rest ∙ ap (λ z. z ++ rest) d.is ∙ append_assoc d.header contents rest in
    let q = owed_after c.owed (Definite (length contents)) (length d.header) (length c.stream.rest) (length (contents ++ rest)) within.fits
    (ap length e ∙ length-append d.header (contents ++ rest)) (λ n z. let y : length contents ≡ n =
    (let u : ◌≡◌ {A = Length} (Definite (length contents)) (Definite n) = z in cc) in omega (arith, y, length-append contents rest)) in (
      contents ++ rest,
      record {
        tag = tag;
        form = false;
        len = Definite (length contents);
        octets = d.header;
        is_header = d.is_header;
        is_asked = refl;
        rest = e;
        owed = q.0;
        falls = q.1;
        fits = q.2;
      },
    )

-- a header of the tag is no reason to answer that there is none
pub header_not_absent : (tag : Tag) (c : Reading) (x rest : List ℕ) → c.state ≡ Open → HasHeader (tagged tag) c x → IsAbsent (tagged tag) c rest → ⊥
header_not_absent tag c x rest o f (inl e) = open_not_ended c.state o e.0
header_not_absent tag c x rest o f (inr e) = elsewhere e.1
  where
    elsewhere : IsElsewhere tag c rest → ⊥
    elsewhere (none_left y z) = no_header_empty (tagged tag) c x y f
    elsewhere (other y z) = no_other_front c.mode tag c.stream.rest (record { tag = f.tag; form = f.form; len = f.len }) x
        (front_of_header c.mode f.tag f.form f.len f.octets c.stream.rest x f.is_header f.rest) f.is_asked y
    elsewhere (marker y z m) = header_no_marker (tagged tag) c x rest f m

-- where no primitive value with the tag comes next, no value does that means anything by contents octets
none_of_primitives : (tag : Tag) (c : Reading) → ((contents w rest : List ℕ) → HasValue c (primitive tag contents) w rest → ⊥)
    → (t : Tree) (w rest : List ℕ) (x : Unit {0}) → HasValue c t w rest × (tag_of t ≡ tag) → InPrimitive {T = Unit {0}} (λ _ _. Unit {0}) t x → ⊥
none_of_primitives tag c n (primitive t contents) w rest x h m = n contents w rest (subst (λ u. HasValue c (primitive u contents) w rest) h.1 h.0)
none_of_primitives tag c n (constructed t ts) w rest x h m = m

-- a header of another form isn't that of such a value
no_other_form : (tag : Tag) (c : Reading) (f : HasForm (Some true) (tagged tag) c) (contents w rest : List ℕ) → HasValue c (primitive tag contents) w rest → ⊥
no_other_form tag c f contents w rest h =
    let d = h.encodes.1 in
    let e : c.stream.rest ≡ d.header ++ (contents ++ rest) = h.rest ∙ ap (λ z. z ++ rest) d.is ∙ append_assoc d.header contents rest in
    let same = one_header c.mode tag f.2.tag false f.2.form (Definite (length contents)) f.2.len d.header f.2.octets
    (contents ++ rest) f.1 d.is_header f.2.is_header (sym e ∙ f.2.rest) in
    let x : false ≡ f.2.form = ap (λ z. z.form) same.0 in
    let y : Some true ≡ Some f.2.form = f.3 in
    cc

form_is : (f : Bool) (l : Length) (k : ContentForm) → IsFormOf f l k → k ≡ Octets → (n : ℕ) × (f ≡ false) × (l ≡ Definite n)
form_is f Indefinite k h e = (let x : values kind.Indefinite ≡ Octets = sym h ∙ e in cc)
form_is false (Definite n) k h e = (n, refl, refl)
form_is true (Definite n) k h e = (let x : values kind.Definite ≡ Octets = sym h ∙ e in cc)

pub or_false : (a b : Bool) → b ≡ false → (a || b) ≡ a
or_false true b e = refl
or_false false b e = e

some_is : (m n : ℕ) → ◌≡◌ {A = Option ℕ} (Some m) (Some n) → m ≡ n
some_is m n e = cc

-- contents octets that were handed behind a header of the tag, all of which came
module _ (tag : Tag) (c i : Reading) (w : Within c) (after : List ℕ) (f : HasHeader (tagged tag) c after) (g : Hands c.mode f.form f.len f.owed after i)
    (k : i.kind ≡ Octets) where
  pub handed_form : (n : ℕ) × (f.form ≡ false) × (f.len ≡ Definite n)
  handed_form = form_is f.form f.len i.kind g.form k

  handed_octets : (i.owed ≡ Some handed_form.0) × (i.stream.rest ≡ take handed_form.0 after)
  handed_octets = subst (λ z. ContentOf z f.owed after i.owed i.stream.rest) handed_form.2 g.octets

  handed_count : i.owed ≡ Some (length i.stream.rest) → length i.stream.rest ≡ handed_form.0
  handed_count a = some_is _ _ (sym a ∙ handed_octets.0)

  handed_encoded : i.owed ≡ Some (length i.stream.rest) → IsEncoding c.mode (primitive tag i.stream.rest) (f.octets ++ i.stream.rest)
  handed_encoded a =
      let o : AreOctets i.stream.rest =
      subst AreOctets (sym handed_octets.1) (AreOctets-take handed_form.0 after (AreOctets-after f.octets c.stream.rest after f.rest w.octets)) in
      let h : IsHeader c.mode tag false (Definite (length i.stream.rest)) f.octets =
      subst (λ z. IsHeader c.mode z false (Definite (length i.stream.rest)) f.octets) f.is_asked
      (subst (λ z. IsHeader c.mode f.tag z (Definite (length i.stream.rest)) f.octets) handed_form.1
      (subst (λ z. IsHeader c.mode f.tag f.form z f.octets) (handed_form.2 ∙ ap Definite (sym (handed_count a))) f.is_header)) in
      (o, record { header = f.octets; is_header = h; is = refl })

  -- the value stands in front
  pub handed_value : c.state ≡ Open → i.owed ≡ Some (length i.stream.rest) → (rest : List ℕ) → after ≡ i.stream.rest ++ rest
      → HasValue c (primitive tag i.stream.rest) (f.octets ++ i.stream.rest) rest
  handed_value o a rest e =
      record { usable = o; encodes = handed_encoded a; rest = f.rest ∙ ap (λ z. f.octets ++ z) e ∙ sym (append_assoc f.octets i.stream.rest rest) }

  -- before what is behind the octets that were handed
  pub handed_before : i.owed ≡ Some (length i.stream.rest) → after ≡ i.stream.rest ++ drop handed_form.0 after
  handed_before a = sym (take-append-drop handed_form.0 after) ∙ ap (λ z. z ++ drop handed_form.0 after) (sym handed_octets.1)

  -- or before the rest of a whole value
  handed_passed : (tree : Tree) (passed rest : List ℕ) → after ≡ passed ++ rest → IsEncoding c.mode tree (f.octets ++ passed) → after ≡ i.stream.rest ++ rest
  handed_passed tree passed rest e h = of_shape (shape_in c i after (any_of tag c after f) g tree (f.octets ++ passed) rest h
      (f.rest ∙ ap (λ z. f.octets ++ z) e ∙ sym (append_assoc f.octets passed rest)))
    where
      of_shape : Shape c.mode f.form f.len rest after → after ≡ i.stream.rest ++ rest
      of_shape (is_primitive b a l y) =
          let n : length b ≡ handed_form.0 = (let u : ◌≡◌ {A = Length} (Definite (length b)) (Definite handed_form.0) = sym l ∙ handed_form.2 in cc) in
          y ∙ ap (λ z. z ++ rest) (sym (handed_octets.1 ∙ ap (take handed_form.0) y ∙ take_at b rest handed_form.0 n))
      of_shape (is_definite ts b a l q y) = absurd (let u : true ≡ false = sym a ∙ handed_form.1 in cc)
      of_shape (is_indefinite ts b e a l q z y) = absurd (let u : true ≡ false = sym a ∙ handed_form.1 in cc)

module _ {C T X : Type 0} (view : C → Reading) (post : Tag → MutBor C → Result T (DecodeError X) → MutBor C → Type 0) (tag : Tag)
    (MeansIn : Mode → List ℕ → T → Type 0) (RefusesIn : Mode → List ℕ → DecodeError X → Type 0)
    (octets : (x : C) → ((view x).kind ≡ Octets) × ((view x).state ≡ Open))
    (reads : (t : Tag) (p : MutBor C) (r : Result T (DecodeError X)) (q : MutBor C) → post t p r q
    → Reads (MeansIn (view p.now).mode) (RefusesIn (view p.now).mode) (view p.now) r (view q.now)) where
  answered_reads : (m : Mode) (t : Tag) (i j : Reading) (r : Result T (DecodeError X)) → Answered {R = Result T (DecodeError X)} view (post t) i r j
      → i.mode ≡ m → Reads (MeansIn m) (RefusesIn m) i r j
  answered_reads m t i j r a e =
      subst (λ z. Reads (MeansIn z) (RefusesIn z) i r j) e
      (subst (λ z. Reads (MeansIn z.mode) (RefusesIn z.mode) z r j) a.handed_is
      (subst (λ z. Reads (MeansIn (view a.handed.now).mode) (RefusesIn (view a.handed.now).mode) (view a.handed.now) r z) a.left_is
      (reads t a.handed r a.left a.called)))

  handed_is_octets : (t : Tag) (i j : Reading) (r : Result T (DecodeError X)) → Answered {R = Result T (DecodeError X)} view (post t) i r j → i.kind ≡ Octets
  handed_is_octets t i j r a = subst (λ z. z.kind ≡ Octets) a.handed_is (octets a.handed.now).0

  left_is_octets : (t : Tag) (i j : Reading) (r : Result T (DecodeError X)) → Answered {R = Result T (DecodeError X)} view (post t) i r j
      → (j.kind ≡ Octets) × (j.state ≡ Open)
  left_is_octets t i j r a = subst (λ z. (z.kind ≡ Octets) × (z.state ≡ Open)) a.left_is (octets a.left.now)

  -- ---- taken

  module _ (c d : Reading) (w : Within c) (x : T) (v : TakesValue view post (tagged tag) c x d) where
    read_all : Reads (MeansIn c.mode) (RefusesIn c.mode) v.handed (Ok x) v.answers.left
    read_all = answered_reads c.mode v.front.tag v.handed v.answers.left (Ok x) v.answers.answered v.hands.mode

    unmarked : v.left.marked ≡ false
    unmarked = v.answers.marked ∙ read_all.marked ∙ v.hands.marked

    taken_as : TakesTree tag (InPrimitive (MeansIn c.mode)) c x d
    taken_as =
        let k = handed_is_octets v.front.tag v.handed v.answers.left (Ok x) v.answers.answered in
        let e : IsEncoding c.mode v.tree (v.front.octets ++ v.passed) =
        subst (λ b. IsEncoding (label c.mode b) v.tree (v.front.octets ++ v.passed)) unmarked v.encodes in
        record {
          tree = primitive tag v.handed.stream.rest;
          octets = v.front.octets ++ v.handed.stream.rest;
          has = (
            handed_value tag c v.handed w (v.passed ++ d.stream.rest) v.front v.hands k v.usable read_all.all d.stream.rest
                (handed_passed tag c v.handed w (v.passed ++ d.stream.rest) v.front v.hands k v.tree v.passed d.stream.rest refl e),
            refl,
          );
          means = read_all.value;
          stays = v.stays;
        }

    taken_marked : d.marked ≡ c.marked
    taken_marked = v.marked ∙ or_false c.marked v.left.marked unmarked

    taken_faults : d.stream.faults ≡ c.stream.faults
    taken_faults = sym v.faults_left ∙ v.answers.no_fault ∙ read_all.no_fault ∙ v.faults_handed

  -- ---- refused

  module _ (c d : Reading) (w : Within c) (e : DecodeError X) (f : RefusesFront cause_of view post (tagged tag) c e d) where
    is_broken : ((contents u rest : List ℕ) → HasValue c (primitive tag contents) u rest → ⊥) → HasNoTree {T = Unit {0}} tag (InPrimitive (λ _ _. Unit {0})) c
    is_broken n = record { usable = f.usable; value = none_of_primitives tag c n; absent = λ rest. header_not_absent tag c f.after rest f.usable f.front }

    few_octets : f.handed.kind ≡ Octets → ((n : ℕ) → f.handed.owed ≡ Some n → length f.handed.stream.rest < n) → (contents u rest : List ℕ) → HasValue c (primitive tag contents) u rest → ⊥
    few_octets k s contents u rest h =
        (short_front c f.handed f.after (any_of tag c f.after f.front) f.hands k s).none (primitive tag contents) u rest h.encodes h.rest

    refused_octets : f.handed.kind ≡ Octets → RefusesReading (RefusesIn c.mode) f.handed e f.left
        → RefusesAs tag (RefusesIn c.mode) c e d
    refused_octets k (readers.RefusesReading.source s g) =
        refusals.Refuses.source s (grew_between _ _ _ _ (no_fewer _ _ f.faults_handed) g f.faults_left)
    refused_octets k (readers.RefusesReading.few s o n) =
        refusals.Refuses.nothing (is_broken (few_octets k s)) (behind_header (tagged tag) c (cause_of e) o f.after f.front)
    refused_octets k (readers.RefusesReading.refused a r n) = refusals.Refuses.otherwise (
      f.handed.stream.rest,
      _,
      _,
      handed_value tag c f.handed w f.after f.front f.hands k f.usable a _ (handed_before tag c f.handed w f.after f.front f.hands k a),
      r,
    )

    refused_end : (l : Reading) → l.kind ≡ Octets → l.state ≡ Open → l.owed ≡ Some 0 → l.stream.faults ≡ f.handed.stream.faults → RefusesEnd cause_of l e f.left
        → RefusesAs tag (RefusesIn c.mode) c e d
    refused_end l k o z n (left_failed x a) = absurd (open_not_failed l.state o x)
    refused_end l k o z n (source_failed s g) = refusals.Refuses.source s (grew_between _ _ _ _ (no_fewer _ _ (n ∙ f.faults_handed)) g f.faults_left)
    refused_end l k o z n (left_open x a) = absurd (x l.stream.rest (inr (o, of_octets k z)))

    refused_content : RefusesContent cause_of view post f.front.tag f.handed e f.left → RefusesAs tag (RefusesIn c.mode) c e d
    refused_content (by_closure a) = refused_octets (handed_is_octets f.front.tag f.handed f.left (Err e) a)
        (answered_reads c.mode f.front.tag f.handed f.left (Err e) a f.hands.mode).refused
    refused_content (unfinished y l a m k z) =
        let b = left_is_octets f.front.tag f.handed l (Ok y) a in
        let r = answered_reads c.mode f.front.tag f.handed l (Ok y) a f.hands.mode in
        refused_end l b.0 b.1 r.none_owed r.no_fault z

    refused_unmarked : RefusesContent cause_of view post f.front.tag f.handed e f.left → f.left.marked ≡ false
    refused_unmarked (by_closure a) = (answered_reads c.mode f.front.tag f.handed f.left (Err e) a f.hands.mode).marked ∙ f.hands.marked
    refused_unmarked (unfinished y l a m k z) = k ∙ (answered_reads c.mode f.front.tag f.handed l (Ok y) a f.hands.mode).marked ∙ f.hands.marked

  refused_as : (c d : Reading) → Within c → (e : DecodeError X) → RefusesTake view post (Some true) (tagged tag) c e d
      → RefusesAs tag (RefusesIn c.mode) c e d
  refused_as c d w e (by_header (refusals.Refuses.failed s a) m) = refusals.Refuses.failed s a
  refused_as c d w e (by_header (refusals.Refuses.source s g) m) = refusals.Refuses.source s g
  refused_as c d w e (by_header (refusals.Refuses.otherwise n) m) = absurd n
  refused_as c d w e (by_header (refusals.Refuses.nothing n a) m) = refusals.Refuses.nothing
      (record { usable = n.usable; value = none_of_primitives tag c (λ contents u rest h. (let x = primitive_header tag c w contents u rest h in n.header x.0 x.1)); absent = n.absent })
      a
  refused_as c d w e (by_form f a m) = refusals.Refuses.nothing (record {
    usable = f.0;
    value = none_of_primitives tag c (no_other_form tag c f);
    absent = λ rest. header_not_absent tag c f.1 rest f.0 f.2;
  }) (behind_header (tagged tag) c (cause_of e) a f.1 f.2)
  refused_as c d w e (by_content f) = refused_content c d w e f f.refuses

  -- no mode was changed
  refused_marked : (c d : Reading) → Within c → (e : DecodeError X) → RefusesTake view post (Some true) (tagged tag) c e d → d.marked ≡ c.marked
  refused_marked c d w e (by_header h m) = m
  refused_marked c d w e (by_form f a m) = m
  refused_marked c d w e (by_content f) = f.marked ∙ or_false c.marked f.left.marked (refused_unmarked c d w e f f.refuses)

  -- ---- what the calls say

  pub next_as : (c d : Reading) (r : Result (Option T) (DecodeError X)) → Within c → TakesNext view post (Some true) (tagged tag) c r d
      → NextBy (tagged tag) (TakesTree tag (InPrimitive (MeansIn c.mode))) (RefusesAs tag (RefusesIn c.mode)) c r d
  next_as c d (Ok (Some x)) w n = record {
    value = taken_as c d w x n.value;
    no_fault = taken_faults c d w x n.value;
    refused = tt;
    mode = n.mode;
    marked = taken_marked c d w x n.value;
  }
  next_as c d (Ok None) w n = (let h : HasNone (tagged tag) c d = n.none in
      record { value = h; no_fault = h.no_fault; refused = tt; mode = n.mode; marked = h.marked })
  next_as c d (Err e) w n = record {
    value = tt;
    no_fault = tt;
    refused = (n.failed, refused_as c d w e n.refused);
    mode = n.mode;
    marked = refused_marked c d w e n.refused;
  }

  pub one_as : (c d : Reading) (r : Result T (DecodeError X)) → Within c → Takes view post (Some true) (tagged tag) c r d
      → OneBy (tagged tag) (TakesTree tag (InPrimitive (MeansIn c.mode))) (RefusesAs tag (RefusesIn c.mode)) c r d
  one_as c d (Ok x) w n =
      record { value = taken_as c d w x n.value; no_fault = taken_faults c d w x n.value; refused = tt; mode = n.mode; marked = taken_marked c d w x n.value }
  one_as c d (Err e) w n = record {
    value = tt;
    no_fault = tt;
    refused = elim n.refused [ inl h ↦ inl h | inr h ↦ inr (h.0, refused_as c d w e h.1) ];
    mode = n.mode;
    marked = elim n.refused [ inl h ↦ h.0.marked | inr h ↦ refused_marked c d w e h.1 ];
  }

  pub passes_as : (x : T) → ((y : T) → y ≡ x) → (c d : Reading) (o : Option T) → Within c → TakesNext view post (Some true) (tagged tag) c (Ok o) d
      → PassesNextBy tag (MeansIn c.mode) (RefusesIn c.mode) c (Ok x) d
  passes_as x only c d (Some y) w n =
      record {
        value = inl (subst (λ z. TakesTree tag (InPrimitive (MeansIn c.mode)) c z d) (only y) (taken_as c d w y n.value));
        no_fault = taken_faults c d w y n.value;
        refused = tt;
        mode = n.mode;
        marked = taken_marked c d w y n.value;
      }
  passes_as x only c d None w n = (let h : HasNone (tagged tag) c d = n.none in
      record { value = inr h; no_fault = h.no_fault; refused = tt; mode = n.mode; marked = h.marked })

  pub refuses_as : (c d : Reading) (e : DecodeError X) → Within c → TakesNext view post (Some true) (tagged tag) c (Err e) d
      → PassesNextBy tag (MeansIn c.mode) (RefusesIn c.mode) c (Err e) d
  refuses_as c d e w n =
      record { value = tt; no_fault = tt; refused = (n.failed, refused_as c d w e n.refused); mode = n.mode; marked = refused_marked c d w e n.refused }

-- contents octets, as the calls see them
pub octets_form : {S : Type 0} (stream : S → Stream) (x : Primitive S) → ((of_primitive stream x).kind ≡ Octets) × ((of_primitive stream x).state ≡ Open)
unfolding of_primitive
octets_form stream x = (refl, refl)

-- a take of a tag by a closure that reads what contents octets mean takes a value as that
module _ {S T X : Type 0} (stream : S → Stream) (sound : (x : S) → IsSound (stream x)) (tag : Tag) (Means : List ℕ → T → Type 0)
    (Refuses : List ℕ → DecodeError X → Type 0) (post : MutBor (Primitive S) → Result T (DecodeError X) → MutBor (Primitive S) → Type 0)
    (reads : (p : MutBor (Primitive S)) (r : Result T (DecodeError X)) (q : MutBor (Primitive S)) → post p r q
    → Reads Means Refuses (of_primitive stream p.now) r (of_primitive stream q.now)) (c d : Constructed S) where
  pub reader_takes_one : (r : Result T (DecodeError X))
      → Takes (of_primitive stream) (λ _. post) (Some true) (tagged tag) (of_constructed stream c) r (of_constructed stream d)
      → OneBy (tagged tag) (TakesTree tag (InPrimitive Means)) (RefusesAs tag Refuses) (of_constructed stream c) r (of_constructed stream d)
  reader_takes_one r h =
      one_as (of_primitive stream) (λ _. post) tag (λ _. Means) (λ _. Refuses) (octets_form stream) (λ t p s q x. reads p s q x) (of_constructed stream c)
      (of_constructed stream d) r (within_constructed stream sound c) h

  pub reader_takes_next : (r : Result (Option T) (DecodeError X))
      → TakesNext (of_primitive stream) (λ _. post) (Some true) (tagged tag) (of_constructed stream c) r (of_constructed stream d)
      → NextBy (tagged tag) (TakesTree tag (InPrimitive Means)) (RefusesAs tag Refuses) (of_constructed stream c) r (of_constructed stream d)
  reader_takes_next r h =
      next_as (of_primitive stream) (λ _. post) tag (λ _. Means) (λ _. Refuses) (octets_form stream) (λ t p s q x. reads p s q x) (of_constructed stream c)
      (of_constructed stream d) r (within_constructed stream sound c) h
