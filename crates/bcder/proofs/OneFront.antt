-- One row of the table holds for what comes next in open content, and one only; and takes return by it.
use Rattle.std.proofs.Common.{◌≡◌, ◌≢◌, ◌⊎◌, ℕ, zero, suc, ◌+◌, ◌-◌, ◌≤◌, Bool, false, List, [], ◌∷◌, ◌++◌, length, drop, Option, Some, None}
use Rattle.std.proofs.Common.{refl, ap, sym, ◌∙◌, arith, subst, inl, inr, length-append}
use Rattle.std.specs.Prelude.{Result, Ok, Err, IsOkAnd, IsErrAnd, IsTrue, is_none}
use Rattle.std.specs.Borrow.{MutBor}
use Rattle.std.proofs.lemmas.Bool.{cases_lt}
use Rattle.std.proofs.lemmas.List.{drop_at}
use Rattle.bcder.specs.declared.length.Length.{Length}
use Rattle.bcder.specs.declared.length.Length.TheVariants.{Definite, Indefinite}
use Rattle.bcder.specs.declared.decode.content.Kind.TheVariants as kind
use Rattle.bcder.specs.declared.decode.content.State.TheVariants.{Open}
use Rattle.bcder.specs.declared.decode.error.DecodeError.{DecodeError}
use Rattle.bcder.specs.x690.Identifier.{Class, universal, application, context_specific, private, Tag, end_of_contents}
use Rattle.bcder.specs.x690.Encoding.{Header}
use Rattle.bcder.specs.steps.Reading.{read_identifier, read_header, read_end}
use Rattle.bcder.specs.steps.Peek.{HasOtherTag}
use Rattle.bcder.specs.steps.Entering.{NoFront}
use Rattle.bcder.specs.calls.Cause.{cause_of}
use Rattle.bcder.specs.calls.Stream.{Grew}
use Rattle.bcder.specs.calls.Content.{Reading, ContentForm, Octets, values, Asked, any, tagged, IsAsked, HasHeader, Falls, FitsOwed}
use Rattle.bcder.specs.calls.Content.{of_definite, of_indefinite, of_unbounded, IsElsewhere, none_left, other, marker, IsAbsent, NothingThere}
use Rattle.bcder.specs.calls.Content.{IsMissing, NamesFront, failed, source, nothing, otherwise}
use Rattle.bcder.specs.calls.Calls.{HasNone, TellsNone, TakesValue, TakesNext, Takes, RefusesTake, by_header, by_form, by_content}
use Rattle.bcder.specs.laws.Sound.{none_is}
use Rattle.bcder.specs.laws.Stands.{header_sound}
use Rattle.bcder.specs.laws.Next.{Front, value, ends, elsewhere, broken, HasFront, HasOneFront, NextAt, OneAt, RefusesFound}
use Rattle.bcder.proofs.Moving.{open_not_failed}
use Rattle.bcder.proofs.Headers.{front_of_read, no_header_unread, no_header_long, no_marker_unread, marker_of_end, end_no_header, header_no_end}
use Rattle.bcder.proofs.Headers.{end_identified, other_of, other_of_front}
use Rattle.bcder.proofs.Entering.{Within, front_nothing, empty_nothing, unread_front, if_nothing, if_ended, if_unread, header_not_at_end}
use Rattle.bcder.proofs.Entering.{empty_unread, empty_unended}
use Rattle.bcder.proofs.Typed.{header_not_absent}

-- ---- what can be told

same_class : (a b : Class) → (a ≡ b) ⊎ (a ≢ b)
same_class universal universal = inl refl
same_class universal application = inr (λ e. cc)
same_class universal context_specific = inr (λ e. cc)
same_class universal private = inr (λ e. cc)
same_class application universal = inr (λ e. cc)
same_class application application = inl refl
same_class application context_specific = inr (λ e. cc)
same_class application private = inr (λ e. cc)
same_class context_specific universal = inr (λ e. cc)
same_class context_specific application = inr (λ e. cc)
same_class context_specific context_specific = inl refl
same_class context_specific private = inr (λ e. cc)
same_class private universal = inr (λ e. cc)
same_class private application = inr (λ e. cc)
same_class private context_specific = inr (λ e. cc)
same_class private private = inl refl

same_number : (m n : ℕ) → (m ≡ n) ⊎ (m ≢ n)
same_number m n = elim (cases_lt m n) [
  | inl l ↦ inr (λ e. omega (arith, l, e))
  | inr l ↦ elim (cases_lt n m) [
    | inl g ↦ inr (λ e. omega (arith, g, e))
    | inr g ↦ inl (omega arith)
  ]
]

same_tag : (t u : Tag) → (t ≡ u) ⊎ (t ≢ u)
same_tag t u = elim (same_class t.class u.class) [
  | inl c ↦ elim (same_number t.number u.number) [
    | inl n ↦ inl (let e : ◌≡◌ {A = Tag} (record { class = t.class; number = t.number }) (record { class = u.class; number = u.number }) = rw (c, n) refl in e)
    | inr n ↦ inr (λ e. n (ap (λ (x : Tag). x.number) e))
  ]
  | inr c ↦ inr (λ e. c (ap (λ (x : Tag). x.class) e))
]

fits_or_not : (l : Length) (o : Option ℕ) → FitsOwed l o ⊎ (FitsOwed l o → ⊥)
fits_or_not (Definite n) (Some m) = elim (cases_lt m n) [
  | inl l ↦ inr (λ h. (let k : n ≤ m = h in omega (arith, l, k)))
  | inr l ↦ inl l
]
fits_or_not (Definite n) None = inl refl
fits_or_not Indefinite o = inl refl

form_or_not : (k : ContentForm) → (k ≡ values kind.Indefinite) ⊎ (k ≢ values kind.Indefinite)
form_or_not Octets = inr (λ e. cc)
form_or_not (values kind.Definite) = inr (λ e. cc)
form_or_not (values kind.Indefinite) = inl refl
form_or_not (values kind.Unbounded) = inr (λ e. cc)

falls_by : (o : Option ℕ) (k : ℕ) → ((n : ℕ) → o ≡ Some n → k ≤ n) → (p : Option ℕ) × Falls o k p
falls_by None k f = (None, refl)
falls_by (Some m) k f = (let l : k ≤ m = f m refl in (Some (m - k), omega arith))

-- ---- one row holds

module _ (c : Reading) (within : Within c) (k : c.kind ≢ Octets) (o : c.state ≡ Open) where
  -- a header that is read is that of a value, or its length doesn't fit
  met : (h : Header) (x : List ℕ) → read_header c.mode c.stream.rest ≡ Some (h, x)
      → ((asked : Asked) → IsAsked asked h.tag → HasHeader asked c x) ⊎ NoFront c
  met h x r =
      let p = header_sound c.mode c.stream.rest (h, x) within.octets r in
      let l : length c.stream.rest ≡ length p.octets + length x = ap length p.is ∙ length-append p.octets x in
      let q = falls_by c.owed (length p.octets) (λ n e. (let z : length c.stream.rest ≤ n = within.fits n e in omega (arith, z, l))) in
      let s : x ≡ drop (length p.octets) c.stream.rest = sym (ap (drop (length p.octets)) p.is ∙ drop_at p.octets x (length p.octets) refl) in
      elim (fits_or_not h.len q.0) [
        | inl f ↦ inl (λ asked a. record {
          tag = h.tag;
          form = h.form;
          len = h.len;
          octets = p.octets;
          is_header = p.is_header;
          is_asked = a;
          rest = p.is;
          owed = q.0;
          falls = q.1;
          fits = f;
        })
        | inr f ↦ inr (record {
          some = λ e. none_is _ (sym (empty_unread c.mode) ∙ subst (λ z. read_header c.mode z ≡ Some (h, x)) e r);
          header = λ asked after z. no_header_long asked c after h (length p.octets) q.0
              (subst (λ y. read_header c.mode c.stream.rest ≡ Some (h, y)) s r) (omega (arith, l)) q.1 f z;
          marker = λ _ after m. no_marker_unread c.mode c.stream.rest after (header_no_end c.mode c.stream.rest h x r) m;
        })
      ]

  unended : (x : List ℕ) → read_end c.mode c.stream.rest ≡ Some x → c.kind ≢ values kind.Indefinite → NoFront c
  unended x e n = record {
    some = λ z. none_is _ (sym (empty_unended c.mode) ∙ subst (λ y. read_end c.mode y ≡ Some x) z e);
    header = λ asked after z. no_header_unread asked c after (end_no_header c.mode c.stream.rest x e) z;
    marker = λ i. absurd (n i);
  }

  some_left : (b : ℕ) (w : List ℕ) → c.stream.rest ≡ b ∷ w → 1 ≤ length c.stream.rest
  some_left b w e = (let l = ap length e in omega (arith, l))

  -- ---- for a value of any tag

  read_any : (c.kind ≡ values kind.Definite → c.owed ≡ Some 0 → ⊥) → (c.kind ≡ values kind.Unbounded → c.stream.rest ≡ [] → ⊥)
      → (f : Front) × HasFront any c f
  read_any d u = by_rest c.stream.rest refl
    where
      by_end : 1 ≤ length c.stream.rest → read_header c.mode c.stream.rest ≡ None → (y : Option (List ℕ)) → read_end c.mode c.stream.rest ≡ y
          → (f : Front) × HasFront any c f
      by_end l r None e = (broken, front_nothing c within k o (unread_front c l r e))
      by_end l r (Some x) e = elim (form_or_not c.kind) [
        | inl i ↦ (ends, (refl, x, of_indefinite i (marker_of_end c.mode c.stream.rest x within.octets e)))
        | inr i ↦ (broken, front_nothing c within k o (unended x e i))
      ]

      by_header : 1 ≤ length c.stream.rest → (y : Option (Header × List ℕ)) → read_header c.mode c.stream.rest ≡ y → (f : Front) × HasFront any c f
      by_header l None r = by_end l r (read_end c.mode c.stream.rest) refl
      by_header l (Some (h, x)) r = elim (met h x r) [
        | inl f ↦ (value, (x, f any refl))
        | inr f ↦ (broken, front_nothing c within k o f)
      ]

      by_rest : (w : List ℕ) → c.stream.rest ≡ w → (f : Front) × HasFront any c f
      by_rest [] e = (broken, empty_nothing c k d (λ z. u z e) o e)
      by_rest (b ∷ w) e = by_header (some_left b w e) (read_header c.mode c.stream.rest) refl

  any_front : (f : Front) × HasFront any c f
  any_front = by_kind c.kind refl
    where
      by_owed : c.kind ≡ values kind.Definite → (y : Option ℕ) → c.owed ≡ y → (f : Front) × HasFront any c f
      by_owed e (Some zero) h = (ends, (refl, [], of_definite e h))
      by_owed e (Some (suc n)) h = read_any (λ _ z. (let y : ◌≡◌ {A = Option ℕ} (Some (suc n)) (Some 0) = sym h ∙ z in cc)) (λ z _. (let y = sym e ∙ z in cc))
      by_owed e None h = read_any (λ _ z. (let y : ◌≡◌ {A = Option ℕ} None (Some 0) = sym h ∙ z in cc)) (λ z _. (let y = sym e ∙ z in cc))

      by_left : c.kind ≡ values kind.Unbounded → (w : List ℕ) → c.stream.rest ≡ w → (f : Front) × HasFront any c f
      by_left e [] h = (ends, (refl, [], of_unbounded e h))
      by_left e (b ∷ w) h = read_any (λ z _. (let y = sym e ∙ z in cc)) (λ _ z. (let y : ◌≡◌ {A = List ℕ} (b ∷ w) [] = sym h ∙ z in cc))

      by_kind : (y : ContentForm) → c.kind ≡ y → (f : Front) × HasFront any c f
      by_kind Octets e = absurd (k e)
      by_kind (values kind.Definite) e = by_owed e c.owed refl
      by_kind (values kind.Indefinite) e = read_any (λ z _. (let y = sym e ∙ z in cc)) (λ z _. (let y = sym e ∙ z in cc))
      by_kind (values kind.Unbounded) e = by_left e c.stream.rest refl

  -- ---- for one of a tag

  module _ (t : Tag) where
    elsewhere_of : HasOtherTag (tagged t) c.stream.rest → (f : Front) × HasFront (tagged t) c f
    elsewhere_of h = (elsewhere, (t, refl, c.stream.rest, other (other_of t c.stream.rest within.octets h) refl))

    tagged_front : (f : Front) × HasFront (tagged t) c f
    tagged_front = by_rest c.stream.rest refl
      where
        by_identifier : 1 ≤ length c.stream.rest → read_header c.mode c.stream.rest ≡ None → read_end c.mode c.stream.rest ≡ None
            → (y : Option (Tag × Bool × List ℕ)) → read_identifier c.stream.rest ≡ y → (f : Front) × HasFront (tagged t) c f
        by_identifier l r e None i = (broken, if_unread c t o l (r, e, λ h. none_is _ (sym i ∙ h.3)))
        by_identifier l r e (Some (u, g, x)) i = elim (same_tag u t) [
          | inl s ↦ (broken, if_unread c t o l (r, e, λ h. h.4 (same_of u h.0 g h.1 x h.2 (sym i ∙ h.3) ∙ s)))
          | inr s ↦ elsewhere_of (u, g, x, i, s)
        ]
          where
            same_of : (a b : Tag) (f g : Bool) (x y : List ℕ) → ◌≡◌ {A = Option (Tag × Bool × List ℕ)} (Some (a, f, x)) (Some (b, g, y)) → b ≡ a
            same_of a b f g x y e = let p : ◌≡◌ {A = Tag × Bool × List ℕ} (a, f, x) (b, g, y) = cc in sym (ap (λ q. q.0) p)

        by_end : 1 ≤ length c.stream.rest → read_header c.mode c.stream.rest ≡ None → (y : Option (List ℕ)) → read_end c.mode c.stream.rest ≡ y
            → (f : Front) × HasFront (tagged t) c f
        by_end l r None e = by_identifier l r e (read_identifier c.stream.rest) refl
        by_end l r (Some x) e = elim (same_tag end_of_contents t) [
          | inl s ↦ elim (form_or_not c.kind) [
            | inl i ↦ (elsewhere, (t, refl, x, marker (sym s) i (marker_of_end c.mode c.stream.rest x within.octets e)))
            | inr i ↦ (broken, if_ended c t x o (unended x e i) e s)
          ]
          | inr s ↦ (let i = end_identified c.mode c.stream.rest x e in elsewhere_of (end_of_contents, false, i.0, i.1, s))
        ]

        by_header : 1 ≤ length c.stream.rest → (y : Option (Header × List ℕ)) → read_header c.mode c.stream.rest ≡ y
            → (f : Front) × HasFront (tagged t) c f
        by_header l None r = by_end l r (read_end c.mode c.stream.rest) refl
        by_header l (Some (h, x)) r = elim (same_tag h.tag t) [
          | inl s ↦ elim (met h x r) [
            | inl f ↦ (value, (x, f (tagged t) s))
            | inr f ↦ (broken, if_nothing c t h x o f r s)
          ]
          | inr s ↦ elsewhere_of (other_of_front c.mode (tagged t) c.stream.rest h x (front_of_read c.mode c.stream.rest h x r) s)
        ]

        by_rest : (w : List ℕ) → c.stream.rest ≡ w → (f : Front) × HasFront (tagged t) c f
        by_rest [] e = (elsewhere, (t, refl, [], none_left e refl))
        by_rest (b ∷ w) e = by_header (some_left b w e) (read_header c.mode c.stream.rest) refl

  a_front : (asked : Asked) → (f : Front) × HasFront asked c f
  a_front any = any_front
  a_front (tagged t) = tagged_front t

  -- ---- and one only

  -- the two rows without a value, as one
  absent_at_end : (asked : Asked) (h : HasFront asked c ends) → IsAbsent asked c h.1
  absent_at_end any h = inr (o, h.2)
  absent_at_end (tagged t) h = (let e : tagged t ≡ any = h.0 in absurd cc)

  absent_elsewhere : (asked : Asked) (h : HasFront asked c elsewhere) → IsAbsent asked c h.2
  absent_elsewhere any h = (let e : any ≡ tagged h.0 = h.1 in absurd cc)
  absent_elsewhere (tagged t) h = (let e : tagged t ≡ tagged h.0 = h.1 in let s : h.0 ≡ t = cc in inr (o, subst (λ z. IsElsewhere z c h.2) s h.3))

  value_not_absent : (asked : Asked) (x : List ℕ) → HasHeader asked c x → (y : List ℕ) → IsAbsent asked c y → ⊥
  value_not_absent any x h y a = header_not_at_end c x within o h y a
  value_not_absent (tagged t) x h y a = header_not_absent t c x y o h a

  not_both : (asked : Asked) → HasFront asked c ends → HasFront asked c elsewhere → ⊥
  not_both asked h g = (let e : any ≡ tagged g.0 = sym h.0 ∙ g.1 in cc)

  one_only : (asked : Asked) (f g : Front) → HasFront asked c f → HasFront asked c g → g ≡ f
  one_only asked value value h i = refl
  one_only asked value ends h i = absurd (value_not_absent asked h.0 h.1 i.1 (absent_at_end asked i))
  one_only asked value elsewhere h i = absurd (value_not_absent asked h.0 h.1 i.2 (absent_elsewhere asked i))
  one_only asked value broken h i = absurd (i.header h.0 h.1)
  one_only asked ends value h i = absurd (value_not_absent asked i.0 i.1 h.1 (absent_at_end asked h))
  one_only asked ends ends h i = refl
  one_only asked ends elsewhere h i = absurd (not_both asked h i)
  one_only asked ends broken h i = absurd (i.absent h.1 (absent_at_end asked h))
  one_only asked elsewhere value h i = absurd (value_not_absent asked i.0 i.1 h.2 (absent_elsewhere asked h))
  one_only asked elsewhere ends h i = absurd (not_both asked i h)
  one_only asked elsewhere elsewhere h i = refl
  one_only asked elsewhere broken h i = absurd (i.absent h.2 (absent_elsewhere asked h))
  one_only asked broken value h i = absurd (h.header i.0 i.1)
  one_only asked broken ends h i = absurd (h.absent i.1 (absent_at_end asked i))
  one_only asked broken elsewhere h i = absurd (h.absent i.2 (absent_elsewhere asked i))
  one_only asked broken broken h i = refl

  pub one_front : (asked : Asked) → HasOneFront asked c
  one_front asked = (let f = a_front asked in (f.0, f.1, λ g h. one_only asked f.0 g f.1 h))

-- ---- takes

module _ {C T X : Type 0} (view : C → Reading) (post : Tag → MutBor C → Result T (DecodeError X) → MutBor C → Type 0) (form : Option Bool)
    (asked : Asked) (c d : Reading) (within : Within c) (k : c.kind ≢ Octets) (o : c.state ≡ Open)
    (sound : Grew c.stream.faults d.stream.faults → ⊥) where
  -- why a value was refused that is there
  found : (x : List ℕ) → HasHeader asked c x → (e : DecodeError X) → RefusesTake view post form asked c e d → RefusesFound view post form asked c e d
  found x h e (by_header (failed s a) m) = absurd (open_not_failed c.state o s)
  found x h e (by_header (source s g) m) = absurd (sound g)
  found x h e (by_header (nothing n a) m) = absurd (n.header x h)
  found x h e (by_header (otherwise n) m) = absurd n
  found x h e (by_form f r m) = inl (r, (f.1, f.2, f.3))
  found x h e (by_content r) = inr r

  -- where a value is, none is missing, and where none is, no value was taken or refused
  none_absent : HasNone asked c d → (y : List ℕ) × IsAbsent asked c y
  none_absent n = by asked n.missing
    where
      by : (a : Asked) → IsMissing a c d → (y : List ℕ) × IsAbsent a c y
      by any m = (d.stream.rest, m.0)
      by (tagged t) m = (d.stream.rest, m.0)

  not_none : (x : List ℕ) → HasHeader asked c x → HasNone asked c d → ⊥
  not_none x h n = (let a = none_absent n in value_not_absent c within k o asked x h a.0 a.1)

  not_taken : (y : List ℕ) → IsAbsent asked c y → (v : T) → TakesValue view post asked c v d → ⊥
  not_taken y a v t = value_not_absent c within k o asked (t.passed ++ d.stream.rest) t.front y a

  not_refused : (y : List ℕ) → IsAbsent asked c y → (e : DecodeError X) → RefusesTake view post form asked c e d → ⊥
  not_refused y a e (by_header (failed s b) m) = open_not_failed c.state o s
  not_refused y a e (by_header (source s g) m) = sound g
  not_refused y a e (by_header (nothing n b) m) = n.absent y a
  not_refused y a e (by_header (otherwise n) m) = absurd n
  not_refused y a e (by_form f r m) = value_not_absent c within k o asked f.1 f.2 y a
  not_refused y a e (by_content r) = value_not_absent c within k o asked r.after r.front y a

  -- where neither is, the rule is named
  named : NothingThere asked c → (e : DecodeError X) → RefusesTake view post form asked c e d → NamesFront asked (cause_of e) c
  named n e (by_header (failed s b) m) = absurd (open_not_failed c.state o s)
  named n e (by_header (source s g) m) = absurd (sound g)
  named n e (by_header (nothing h b) m) = b
  named n e (by_header (otherwise h) m) = absurd h
  named n e (by_form f r m) = absurd (n.header f.1 f.2)
  named n e (by_content r) = absurd (n.header r.after r.front)

  next_absent : (y : List ℕ) → IsAbsent asked c y → (r : Result (Option T) (DecodeError X)) → TakesNext view post form asked c r d
      → IsOkAnd r (λ q. IsTrue (is_none q)) × HasNone asked c d
  next_absent y a (Ok None) p = (refl, p.none)
  next_absent y a (Ok (Some v)) p = absurd (not_taken y a v p.value)
  next_absent y a (Err e) p = absurd (not_refused y a e p.refused)

  pub next_at : (r : Result (Option T) (DecodeError X)) → TakesNext view post form asked c r d → (f : Front) → HasFront asked c f
      → NextAt view post form asked f c r d
  next_at (Ok None) p value h = absurd (not_none h.0 h.1 p.none)
  next_at (Ok (Some v)) p value h = (p.value, tt, tt)
  next_at (Err e) p value h = (tt, found h.0 h.1 e p.refused, p.failed)
  next_at r p ends h = next_absent h.1 (absent_at_end c within k o asked h) r p
  next_at r p elsewhere h = next_absent h.2 (absent_elsewhere c within k o asked h) r p
  next_at (Ok None) p broken h = (let a = none_absent p.none in absurd (h.absent a.0 a.1))
  next_at (Ok (Some v)) p broken h = absurd (h.header (p.value.passed ++ d.stream.rest) p.value.front)
  next_at (Err e) p broken h = (named h e p.refused, p.failed)

  one_absent : (y : List ℕ) → IsAbsent asked c y → (r : Result T (DecodeError X)) → Takes view post form asked c r d
      → IsErrAnd r (λ e. TellsNone asked e) × HasNone asked c d
  one_absent y a (Ok v) p = absurd (not_taken y a v p.value)
  one_absent y a (Err e) p = elim p.refused [ inl n ↦ (n.1, n.0) | inr q ↦ absurd (not_refused y a e q.1) ]

  pub one_at : (r : Result T (DecodeError X)) → Takes view post form asked c r d → (f : Front) → HasFront asked c f
      → OneAt view post form asked f c r d
  one_at (Ok v) p value h = (p.value, tt, tt)
  one_at (Err e) p value h = elim p.refused [ inl n ↦ absurd (not_none h.0 h.1 n.0) | inr q ↦ (tt, found h.0 h.1 e q.1, q.0) ]
  one_at r p ends h = one_absent h.1 (absent_at_end c within k o asked h) r p
  one_at r p elsewhere h = one_absent h.2 (absent_elsewhere c within k o asked h) r p
  one_at (Ok v) p broken h = absurd (h.header (p.value.passed ++ d.stream.rest) p.value.front)
  one_at (Err e) p broken h = elim p.refused [
    | inl n ↦ (let a = none_absent n.0 in absurd (h.absent a.0 a.1))
    | inr q ↦ (named h e q.1, q.0)
  ]
