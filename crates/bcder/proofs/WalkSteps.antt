-- Walking finds the values that are there, and no others.
use Rattle.std.proofs.Common.{◌≡◌, ◌≢◌, ℕ, ◌+◌, ◌-◌, ◌<◌, ◌≤◌, Bool, true, false, List, [], ◌++◌, length, take, Option, Some, None}
use Rattle.std.proofs.Common.{refl, ap, sym, ◌∙◌, arith, length-append, append_assoc, append-nil, subst, inl, inr}
use Rattle.std.specs.Prelude.{◌⊎◌, Result, Ok, Err, IsErrAnd, OnOk, IfErr}
use Rattle.std.proofs.lemmas.List.{take_at}
use Rattle.bcder.specs.declared.mode.Mode.{Mode}
use Rattle.bcder.specs.declared.length.Length.{Length}
use Rattle.bcder.specs.declared.length.Length.TheVariants.{Definite, Indefinite}
use Rattle.bcder.specs.declared.decode.content.Kind.TheVariants as kind
use Rattle.bcder.specs.declared.decode.content.State.TheVariants.{Open, Ended, Failed}
use Rattle.bcder.specs.x690.Length.{IsEndOfContents}
use Rattle.bcder.specs.x690.Tree.{Tree, Trees, no_trees, ◌∷ₜ◌}
use Rattle.bcder.specs.x690.Encoding.{IsEncoding, AreEncodings}
use Rattle.bcder.specs.calls.Stream.{Grew}
use Rattle.bcder.specs.declared.decode.error.ContentError.{ContentError}
use Rattle.bcder.specs.calls.Cause.{Cause, of_source, IsOfContent}
use Rattle.bcder.specs.calls.Content.{Reading, ContentForm, values, Octets, any, HasHeader}
use Rattle.bcder.specs.calls.Content.{HasMarker, Moves, MovesBy, Falls, FitsOwed, IsDone, IsUsedUp, IsAtEnd, of_octets, of_definite}
use Rattle.bcder.specs.calls.Content.{of_indefinite, of_unbounded, EndsBefore, NothingThere}
use Rattle.bcder.specs.calls.Calls.{Hands, IsFormOf, ContentOf, RefusesEnd, left_failed, source_failed, left_open}
use Rattle.bcder.specs.calls.Walking.{HasNoNext, HasValue, PassesValue, ClosesBefore, HasValues, AllBy, Walks, RefusesValues}
use Rattle.bcder.specs.laws.Complete.{one_encoding, two_octets, Same}
use Rattle.bcder.specs.laws.Lists.{First}
use Rattle.bcder.specs.laws.Moved.{moved_keeps_kind, untouched_is_moved, moved_twice_is_moved}
use Rattle.bcder.proofs.Moving.{open_not_ended, open_not_failed}
use Rattle.bcder.proofs.Headers.{header_of, Shape, shape, is_primitive, is_definite, is_indefinite}
use Rattle.bcder.proofs.Entering.{Within, header_not_at_end}
use Rattle.bcder.specs.calls.Content as refusals
use Rattle.bcder.specs.calls.Content.{Refuses}
use Rattle.bcder.specs.steps.WalkSteps.{NoValue}
use Rattle.bcder.proofs.Naming.{looked_alike, header_alike, front_named}

-- ---- an encoding in front

-- what is owed after a header, where an encoding stands there in full
pub owed_after : (o : Option ℕ) (len : Length) (h total body : ℕ) → ((n : ℕ) → o ≡ Some n → total ≤ n) → total ≡ h + body
    → ((n : ℕ) → len ≡ Definite n → n ≤ body) → (q : Option ℕ) × Falls o h q × FitsOwed len q
owed_after None (Definite n) h total body f e g = (None, refl, refl)
owed_after None Indefinite h total body f e g = (None, refl, refl)
owed_after (Some o) (Definite n) h total body f e g = let x : total ≤ o = f o refl in let y : n ≤ body = g n refl in (Some (o - h), omega arith, omega arith)
owed_after (Some o) Indefinite h total body f e g = let x : total ≤ o = f o refl in (Some (o - h), omega arith, refl)

-- where an encoding stands in front, a header does
module _ (c : Reading) (w : Within c) where
  pub header_there : (t : Tree) (v after : List ℕ) → IsEncoding c.mode t v → c.stream.rest ≡ v ++ after → (x : List ℕ) × HasHeader any c x
  header_there t v after k r =
      let h = header_of c.mode t v k in
      let e : c.stream.rest ≡ h.octets ++ (h.body ++ after) = r ∙ ap (λ z. z ++ after) h.is ∙ append_assoc h.octets h.body after in
      let q = owed_after c.owed h.len (length h.octets) (length c.stream.rest) (length (h.body ++ after)) w.fits (ap length e
      ∙ length-append h.octets (h.body ++ after)) (λ n z. let y : n ≤ length h.body = h.fits n z in omega (arith, y, length-append h.body after)) in (
        h.body ++ after,
        record {
          tag = h.tag;
          form = h.form;
          len = h.len;
          octets = h.octets;
          is_header = h.is_header;
          is_asked = refl;
          rest = e;
          owed = q.0;
          falls = q.1;
          fits = q.2;
        },
      )

  pub no_value_of_nothing : NothingThere any c → NoValue c
  no_value_of_nothing n = record { none = λ t v after k r. let h = header_there t v after k r in n.header h.0 h.1 }

  -- so content is not at its end
  pub value_not_at_end : (t : Tree) (v after : List ℕ) → HasValue c t v after → (after : List ℕ) → EndsBefore c after → ⊥
  value_not_at_end t v after k = let h = header_there t v after k.encodes k.rest in header_not_at_end c h.0 w k.usable h.1

pub end_of_nothing : (c : Reading) → NothingThere any c → (after : List ℕ) → EndsBefore c after → ⊥
end_of_nothing c n = n.absent

pub value_once : (c : Reading) (t u : Tree) (v w x y : List ℕ) → HasValue c t v x → HasValue c u w y → Same t u v w x y
value_once c t u v w x y h k = one_encoding c.mode t u v w x y h.encodes k.encodes (sym h.rest ∙ k.rest)

-- ---- values up to the end

first_of : (m : Mode) (ts : Trees) (w : List ℕ) → AreEncodings m ts w → (w ≡ []) ⊎ First m ts w
first_of m no_trees w h = inl h
first_of m (t ∷ₜ ts) w h = inr (record { tree = t; trees = ts; front = h.0; others = h.1; first = h.2; rest = h.3; are = refl; is = h.4 })

-- where no values are left, content is at its end
ends_before : (c : Reading) (f : ContentForm) (all after : List ℕ) → c.kind ≡ f → c.state ≡ Open → ClosesBefore f c.mode c.owed all after → all ≡ []
    → c.stream.rest ≡ all ++ after → (x : List ℕ) × EndsBefore c x
ends_before c Octets all after q s h e r = absurd h
ends_before c (values kind.Definite) all after q s h e r = (after, inr (s, of_definite q (h ∙ ap (λ x. Some (length x)) e)))
ends_before c (values kind.Indefinite) all after q s h e r =
    (h.0, inr (s, of_indefinite q (subst (λ z. HasMarker c.mode z h.0) (sym (r ∙ ap (λ x. x ++ after) e)) h.1)))
ends_before c (values kind.Unbounded) all after q s h e r = (after, inr (s, of_unbounded q (r ∙ ap (λ x. x ++ after) e ∙ h)))

pub no_next : (c : Reading) → c.state ≡ Open → NoValue c → ((after : List ℕ) → EndsBefore c after → ⊥) → HasNoNext c
no_next c s n e = record { usable = s; some = e; none = record { none = λ t w after h. n.none t w after h.encodes h.rest } }

pub no_values : (c : Reading) → HasNoNext c → HasValues c → ⊥
no_values c n h = elim (first_of c.mode h.trees h.all h.encode) [
  | inl z ↦ (let b = ends_before c c.kind h.all h.after refl n.usable h.closes z h.rest in n.some b.0 b.1)
  | inr f ↦ n.none.none f.tree f.front (f.others ++ h.after) (record {
    usable = n.usable;
    encodes = f.first;
    rest = h.rest ∙ ap (λ x. x ++ h.after) f.is ∙ append_assoc f.front f.others h.after;
  })
]

passed_length : (p v x : List ℕ) → p ++ x ≡ v ++ x → length p ≡ length v
passed_length p v x e = omega (arith, ap length e, length-append p x, length-append v x)

falls_to : (o p : Option ℕ) (a b n : ℕ) → Falls o a p → o ≡ Some b → b ≡ a + n → p ≡ Some n
falls_to None p a b n f e g = (let z : ◌≡◌ {A = Option ℕ} None (Some b) = e in cc)
falls_to (Some o) None a b n f e g = absurd (f refl)
falls_to (Some o) (Some p) a b n f e g = ap Some (let z : o ≡ b = (let y : ◌≡◌ {A = Option ℕ} (Some o) (Some b) = e in cc) in omega arith)

module _ (j k : Reading) (w : Within j) (one : PassesValue j k) (m : MovesBy j k) (mode : k.mode ≡ j.mode) where
  closes_on : (f : ContentForm) (all others after : List ℕ) → ClosesBefore f j.mode j.owed all after → all ≡ one.value ++ others
      → ClosesBefore f j.mode k.owed others after
  closes_on Octets all others after c e = c
  closes_on (values kind.Definite) all others after c e =
      let l : length m.passed ≡ length one.value = passed_length m.passed one.value k.stream.rest (sym m.rest ∙ one.has.rest) in
      falls_to j.owed k.owed (length m.passed) (length all) (length others) m.owed c (omega (arith, l, ap length e, length-append one.value others))
  closes_on (values kind.Indefinite) all others after c e = c
  closes_on (values kind.Unbounded) all others after c e = c

  values_more : (h : HasValues j) → First j.mode h.trees h.all → HasValues k
  values_more h f =
      let r : j.stream.rest ≡ f.front ++ (f.others ++ h.after) = h.rest ∙ ap (λ x. x ++ h.after) f.is ∙ append_assoc f.front f.others h.after in
      let s = value_once j f.tree one.tree f.front one.value (f.others ++ h.after) k.stream.rest
      (record { usable = one.has.usable; encodes = f.first; rest = r }) one.has in
      let c : ClosesBefore j.kind j.mode k.owed f.others h.after = closes_on j.kind h.all f.others h.after h.closes (f.is ∙ ap (λ x. x ++ f.others) s.front) in
      record {
        trees = f.trees;
        all = f.others;
        after = h.after;
        encode = subst (λ x. AreEncodings x f.trees f.others) (sym mode) f.rest;
        rest = sym s.rest;
        closes = subst (λ x. ClosesBefore k.kind x k.owed f.others h.after) (sym mode)
            (subst (λ x. ClosesBefore x j.mode k.owed f.others h.after) (sym m.kind) c);
      }

  pub values_after : HasValues j → HasValues k
  values_after h = elim (first_of j.mode h.trees h.all h.encode) [
    | inl e ↦ absurd (let b = ends_before j j.kind h.all h.after refl one.has.usable h.closes e h.rest in
        let n = value_not_at_end j w one.tree one.value k.stream.rest one.has in n b.0 b.1)
    | inr f ↦ values_more h f
  ]

  -- and they were there before that value
  falls_from : (o p : Option ℕ) (a b n : ℕ) → Falls o a p → p ≡ Some n → b ≡ a + n → o ≡ Some b
  falls_from None None a b n f e q = (let z : ◌≡◌ {A = Option ℕ} None (Some n) = e in cc)
  falls_from None (Some p) a b n f e q = absurd (f refl)
  falls_from (Some o) None a b n f e q = absurd (f refl)
  falls_from (Some o) (Some p) a b n f e q = ap Some (let z : p ≡ n = (let y : ◌≡◌ {A = Option ℕ} (Some p) (Some n) = e in cc) in omega arith)

  closes_back : (f : ContentForm) (others after : List ℕ) → ClosesBefore f j.mode k.owed others after → ClosesBefore f j.mode j.owed (one.value ++ others) after
  closes_back Octets others after c = c
  closes_back (values kind.Definite) others after c =
      let l : length m.passed ≡ length one.value = passed_length m.passed one.value k.stream.rest (sym m.rest ∙ one.has.rest) in
      falls_from j.owed k.owed (length m.passed) (length (one.value ++ others)) (length others) m.owed c (omega (arith, l, length-append one.value others))
  closes_back (values kind.Indefinite) others after c = c
  closes_back (values kind.Unbounded) others after c = c

  pub values_before : HasValues k → HasValues j
  values_before h =
      let c : ClosesBefore j.kind j.mode k.owed h.all h.after =
      subst (λ x. ClosesBefore x j.mode k.owed h.all h.after) m.kind (subst (λ x. ClosesBefore k.kind x k.owed h.all h.after) mode h.closes) in
      record {
        trees = one.tree ∷ₜ h.trees;
        all = one.value ++ h.all;
        after = h.after;
        encode = (one.value, h.all, one.has.encodes, subst (λ x. AreEncodings x h.trees h.all) mode h.encode, refl);
        rest = one.has.rest ∙ ap (λ x. one.value ++ x) h.rest ∙ sym (append_assoc one.value h.all h.after);
        closes = closes_back j.kind h.all h.after c;
      }

  pub values_before_trees : (h : HasValues k) → (values_before h).trees ≡ one.tree ∷ₜ h.trees
  unfolding values_before
  values_before_trees h = refl

-- ---- a loop over the values

pub walks_refl : (c : Reading) → Walks c c
walks_refl c = record {
  moves = untouched_is_moved c;
  mode = refl;
  marked = refl;
  ended = λ f. f;
  failed = λ f. f;
  remain = λ h. h;
  were = λ h. h;
  front = λ n. record { rest = refl; kept = refl; owed = refl; kind = refl; state = refl; mode = refl; marked = refl; name = refl };
}

pub walks_value : (i j k : Reading) → Within j → Walks i j → Moves j k → k.mode ≡ j.mode → k.marked ≡ j.marked → PassesValue j k → Walks i k
unfolding Moves
walks_value i j k n w m o g one = record {
  moves = moved_twice_is_moved i j k w.moves m;
  mode = o ∙ w.mode;
  marked = g ∙ w.marked;
  ended = λ f. absurd (open_not_ended k.state one.stays f);
  failed = λ f. absurd (open_not_failed k.state one.stays f);
  remain = λ h. values_after j k n one m o (w.remain h);
  were = λ h. w.were (values_before j k n one m o h);
  front = λ q. (let h = header_there j n one.tree one.value k.stream.rest one.has.encodes one.has.rest in
      absurd (q.header h.0 (header_alike i j (looked_alike i j (w.front q)) any h.0 h.1)));
}

pub moves_faults : (c d : Reading) → Moves c d → c.stream.faults ≤ d.stream.faults
unfolding Moves
moves_faults c d m = m.faults

pub value_shorter : (c d : Reading) → PassesValue c d → length d.stream.rest + 2 ≤ length c.stream.rest
value_shorter c d p =
    (let h : 2 ≤ length p.value = two_octets c.mode p.tree p.value p.has.encodes in omega (arith, ap length p.has.rest, length-append p.value d.stream.rest))

pub grew_from : (a b c : ℕ) → a ≤ b → Grew b c → Grew a c
grew_from a b c h g =
    record { no_smaller = (let x : b ≤ c = g.no_smaller in omega arith); larger_or_last = elim g.larger_or_last [ inl x ↦ inl (omega arith) | inr x ↦ inr x ] }

-- the loop stops at an error
pub walks_refused : {E : Type 0} (why : E → Cause ContentError) (e : E) (i j k : Reading) → i.kind ≢ Octets → Walks i j
    → Refuses why any HasNoNext ⊥ j e k
    → RefusesValues why i e k
walks_refused why e i j k o w (refusals.Refuses.failed f a) = refusals.Refuses.failed (w.failed f) a
walks_refused why e i j k o w (refusals.Refuses.source s f) = refusals.Refuses.source s (grew_from _ _ _ (moves_faults i j w.moves) f)
walks_refused why e i j k o w (refusals.Refuses.otherwise n) = absurd n
walks_refused why e i j k o w (refusals.Refuses.nothing n a) = refusals.Refuses.nothing (o, λ h. no_values j n (w.remain h))
    (record { refused = a.refused; named = λ q. (let r = front_named i j (looked_alike i j (w.front q)) (why e) a in r.named q) })

-- and answers the error that it met
pub all_refused : {T E : Type 0} (Refuses : Reading → E → Reading → Type 0) (c d : Reading) (r : Result T E) (e : E) → IsErrAnd r (λ x. x ≡ e) → Refuses c e d
    → d.state ≡ Failed → d.mode ≡ c.mode → d.marked ≡ c.marked → AllBy Refuses c r d
all_refused Refuses c d (Ok x) e h a f m g = absurd h
all_refused Refuses c d (Err x) e h a f m g =
    record { value = tt; no_fault = tt; refused = (f, subst (λ y. Refuses c y d) (sym h) a); mode = m; marked = g }

pub stopped_at_error : {T E : Type 0} (Refuses : Reading → E → Reading → Type 0) (c d : Reading) (r : Result T E) (e : E) → IsErrAnd r (λ x. x ≡ e)
    → Refuses c e d → (P : Type 0) → OnOk r P × IfErr r (λ x. Refuses c x d)
stopped_at_error Refuses c d (Ok x) e h a P = absurd h
stopped_at_error Refuses c d (Err x) e h a P = (tt, subst (λ y. Refuses c y d) (sym h) a)

-- at the end no values are left
pub none_left : (c : Reading) (after : List ℕ) → c.kind ≢ Octets → IsAtEnd c after → HasValues c
none_left c after o (of_octets q e) = absurd (o q)
none_left c after o (of_definite q e) = record {
  trees = no_trees;
  all = [];
  after = c.stream.rest;
  encode = refl;
  rest = refl;
  closes = subst (λ x. ClosesBefore x c.mode c.owed [] c.stream.rest) (sym q) e;
}
none_left c after o (of_indefinite q m) = record {
  trees = no_trees;
  all = [];
  after = c.stream.rest;
  encode = refl;
  rest = refl;
  closes = subst (λ x. ClosesBefore x c.mode c.owed [] c.stream.rest) (sym q) (after, m);
}
none_left c after o (of_unbounded q e) = record {
  trees = no_trees;
  all = [];
  after = c.stream.rest;
  encode = refl;
  rest = refl;
  closes = subst (λ x. ClosesBefore x c.mode c.owed [] c.stream.rest) (sym q) e;
}

pub none_left_trees : (c : Reading) (after : List ℕ) (o : c.kind ≢ Octets) (e : IsAtEnd c after) → (none_left c after o e).trees ≡ no_trees
unfolding none_left
none_left_trees c after o (of_octets q e) = absurd (o q)
none_left_trees c after o (of_definite q e) = refl
none_left_trees c after o (of_indefinite q m) = refl
none_left_trees c after o (of_unbounded q e) = refl

-- the loop stops at the end
pub walks_all : (i j k : Reading) → i.kind ≢ Octets → Walks i j → EndsBefore j k.stream.rest → i.state ≡ Open → HasValues i
walks_all i j k o w (inl e) s = absurd (open_not_ended i.state s (w.ended e))
walks_all i j k o w (inr e) s = w.were (none_left j k.stream.rest (λ q. o (sym (moved_keeps_kind i j w.moves) ∙ q)) e.1)

-- ---- a value that was refused in its content

form_octets : (f : Bool) (l : Length) (n : ℕ) (k : ContentForm) → f ≡ false → l ≡ Definite n → IsFormOf f l k → k ≡ Octets
form_octets f l n k a b h = subst (λ x. IsFormOf false x k) b (subst (λ x. IsFormOf x l k) a h)

form_definite : (f : Bool) (l : Length) (n : ℕ) (k : ContentForm) → f ≡ true → l ≡ Definite n → IsFormOf f l k → k ≡ values kind.Definite
form_definite f l n k a b h = subst (λ x. IsFormOf true x k) b (subst (λ x. IsFormOf x l k) a h)

form_indefinite : (f : Bool) (l : Length) (k : ContentForm) → l ≡ Indefinite → IsFormOf f l k → k ≡ values kind.Indefinite
form_indefinite f l k b h = subst (λ x. IsFormOf f x k) b h

-- the octets that a length counts
take_front : (n : ℕ) (b x y : List ℕ) → n ≡ length b → y ≡ b ++ x → take n y ≡ b
take_front n b x y e s = ap (take n) s ∙ take_at b x n (sym e)

module _ (c i : Reading) (after : List ℕ) (f : HasHeader any c after) (g : Hands c.mode f.form f.len f.owed after i) where
  handed_definite : (b x : List ℕ) → f.len ≡ Definite (length b) → after ≡ b ++ x → (i.owed ≡ Some (length b)) × (i.stream.rest ≡ b)
  handed_definite b x l y =
      let o : (i.owed ≡ Some (length b)) × (i.stream.rest ≡ take (length b) after) = subst (λ z. ContentOf z f.owed after i.owed i.stream.rest) l g.octets in
      (o.0, o.1 ∙ take_front (length b) b x after refl y)

  broken_shape : (x : List ℕ) → i.kind ≢ Octets → (HasValues i → ⊥) → Shape c.mode f.form f.len x after → ⊥
  broken_shape x k n (is_primitive b a l y) = k (form_octets f.form f.len (length b) i.kind a l g.form)
  broken_shape x k n (is_definite ts b a l q y) =
      let o = handed_definite b x l y in
      n (record {
        trees = ts;
        all = b;
        after = [];
        encode = subst (λ z. AreEncodings z ts b) (sym g.mode) q;
        rest = o.1 ∙ sym (append-nil b);
        closes = subst (λ z. ClosesBefore z i.mode i.owed b []) (sym (form_definite f.form f.len (length b) i.kind a l g.form)) o.0;
      })
  broken_shape x k n (is_indefinite ts b e a l q z y) =
      let r : (i.owed ≡ f.owed) × (i.stream.rest ≡ after) = subst (λ z. ContentOf z f.owed after i.owed i.stream.rest) l g.octets in
      n (record {
        trees = ts;
        all = b;
        after = e ++ x;
        encode = subst (λ z. AreEncodings z ts b) (sym g.mode) q;
        rest = r.1 ∙ y;
        closes = subst (λ z. ClosesBefore z i.mode i.owed b (e ++ x)) (sym (form_indefinite f.form f.len i.kind l g.form))
            (x, record { marker = e; is_end = subst (λ m. IsEndOfContents m e) (sym g.mode) z; rest = refl });
      })

  short_shape : (x : List ℕ) → i.kind ≡ Octets → ((n : ℕ) → i.owed ≡ Some n → length i.stream.rest < n) → Shape c.mode f.form f.len x after → ⊥
  short_shape x k n (is_primitive b a l y) =
      let o = handed_definite b x l y in
      let s : length i.stream.rest < length b = n (length b) o.0 in
      omega (arith, s, ap length o.1)
  short_shape x k n (is_definite ts b a l q y) = (let u : Octets ≡ values kind.Definite = sym k ∙ form_definite f.form f.len (length b) i.kind a l g.form in cc)
  short_shape x k n (is_indefinite ts b e a l q z y) = (let u : Octets ≡ values kind.Indefinite = sym k ∙ form_indefinite f.form f.len i.kind l g.form in cc)

  pub shape_in : (t : Tree) (v x : List ℕ) → IsEncoding c.mode t v → c.stream.rest ≡ v ++ x → Shape c.mode f.form f.len x after
  shape_in t v x k r = shape c.mode f.tag f.form f.len f.octets after f.is_header t v x k (sym r ∙ f.rest)

  broken_front : i.kind ≢ Octets → (HasValues i → ⊥) → NoValue c
  broken_front k n = record { none = λ t v x e r. broken_shape x k n (shape_in t v x e r) }

  pub short_front : i.kind ≡ Octets → ((n : ℕ) → i.owed ≡ Some n → length i.stream.rest < n) → NoValue c
  short_front k n = record { none = λ t v x e r. short_shape x k n (shape_in t v x e r) }

-- content that is done is at its end
pub done_here : (j : Reading) (f : ContentForm) → j.kind ≡ f → IsDone j → EndsBefore j j.stream.rest
done_here j f e (inl s) = inl s
done_here j Octets e (inr s) = inr (s.0, of_octets e (subst (λ x. IsUsedUp x j.owed j.stream.rest) e s.1))
done_here j (values kind.Definite) e (inr s) = inr (s.0, of_definite e (subst (λ x. IsUsedUp x j.owed j.stream.rest) e s.1))
done_here j (values kind.Indefinite) e (inr s) = absurd (subst (λ x. IsUsedUp x j.owed j.stream.rest) e s.1)
done_here j (values kind.Unbounded) e (inr s) = inr (s.0, of_unbounded e (subst (λ x. IsUsedUp x j.owed j.stream.rest) e s.1))

not_failed_done : (j : Reading) → IsDone j → j.state ≡ Failed → ⊥
not_failed_done j (inl s) e = (let x : Ended ≡ Failed = sym s ∙ e in cc)
not_failed_done j (inr s) e = (let x : Open ≡ Failed = sym s.0 ∙ e in cc)

pub grew_between : (a b c d : ℕ) → a ≤ b → Grew b c → c ≡ d → Grew a d
grew_between a b c d h g e = subst (λ x. Grew a x) e (grew_from a b c h g)

module _ {E : Type 0} (why : E → Cause ContentError) (e : E) (c d i j : Reading) (after : List ℕ) (f : HasHeader any c after)
    (g : Hands c.mode f.form f.len f.owed after i) (b : c.stream.faults ≤ i.stream.faults) (s : j.stream.faults ≡ d.stream.faults) where
  pub refused_inside : RefusesValues why i e j → ((why e ≡ of_source) × Grew c.stream.faults d.stream.faults) ⊎ (NoValue c × IsOfContent (why e))
  refused_inside (refusals.Refuses.failed x a) = absurd (open_not_failed i.state g.state x)
  refused_inside (refusals.Refuses.source k x) = inl (k, grew_between _ _ _ _ b x s)
  refused_inside (refusals.Refuses.nothing n a) = inr (broken_front c i after f g n.0 n.1, a.refused)
  refused_inside (refusals.Refuses.otherwise s) = inr (short_front c i after f g s.0 s.1, s.2)

  pub refused_end : (l : Reading) → IsDone l → Moves i l → RefusesEnd why l e j → (why e ≡ of_source) × Grew c.stream.faults d.stream.faults
  refused_end l q m (left_failed x a) = absurd (not_failed_done l q x)
  refused_end l q m (source_failed k x) = (
    k,
    let y : i.stream.faults ≤ l.stream.faults = moves_faults i l m in
        let z : c.stream.faults ≤ l.stream.faults = omega arith in grew_between _ _ _ _ z x s,
  )
  refused_end l q m (left_open x a) = absurd (x l.stream.rest (done_here l i.kind (moved_keeps_kind i l m) q))
