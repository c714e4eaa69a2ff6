-- What strings hold.
use Rattle.std.proofs.Common.{◌≡◌, ◌≢◌, ℕ, List, [], ◌∷◌, ◌++◌, Option, Some, None, refl, sym, ap, subst, ◌∙◌}
use Rattle.std.proofs.Common.{append-nil, arith, inl, inr, Result, Ok, Err, IfNone}
use Rattle.std.specs.Borrow.{Bor, MutBor}
use Rattle.bcder.specs.declared.mode.Mode.{Mode}
use Rattle.bcder.specs.declared.decode.content.State.TheVariants.{Open, Failed}
use Rattle.bcder.specs.declared.decode.content.Constructed.{Constructed}
use Rattle.bcder.specs.declared.decode.error.DecodeError.{DecodeError}
use Rattle.bcder.specs.declared.decode.source.slice.SliceSource.{SliceSource}
use Rattle.bcder.specs.x690.Identifier.{Tag}
use Rattle.bcder.specs.x690.BitString.{bit_string_tag}
use Rattle.bcder.specs.x690.OctetString.{octet_string_tag}
use Rattle.bcder.specs.x690.Tree.{Trees}
use Rattle.bcder.specs.x690.Encoding.{AreEncodings}
use Rattle.bcder.specs.calls.Stream.{Stream, Grew}
use Rattle.bcder.specs.declared.decode.content.Kind.TheVariants as kind
use Rattle.bcder.specs.calls.Content.{Reading, IsDone, values}
use Rattle.bcder.specs.calls.Walking.{ClosesBefore, HasValues, RefusesValues, AllBy}
use Rattle.bcder.specs.calls.Walking.{RefusesSkipAll}
use Rattle.bcder.specs.calls.Walking as skipping
use Rattle.bcder.specs.calls.Content as refusals
use Rattle.bcder.specs.calls.Decoding.{IsAllOf, Decodes, RefusesOn, RefusesDecode}
use Rattle.bcder.specs.calls.Decoding as decoding
use Rattle.bcder.specs.calls.Views.{of_constructed}
use Rattle.bcder.specs.calls.Cause.{cause_of, of_memory}
use Rattle.berdump.specs.Listing.{IsFront, IsList, IsNoList, Holds, HoldsNone}

-- ---- strings

abbrev tail : List ℕ → List ℕ
tail [] = []
tail (x ∷ xs) = xs

-- a string has one front
one_rest : (t : Tag) (f g x y : List ℕ) → IsFront t f → IsFront t g → f ++ x ≡ g ++ y → x ≡ y
one_rest t f g x y (inl a) (inl b) e = sym (ap (λ z. z ++ x) a.1) ∙ e ∙ ap (λ z. z ++ y) b.1
one_rest t f g x y (inl a) (inr b) e =
    let k : octet_string_tag ≡ bit_string_tag = sym a.0 ∙ b.0 in
    let n : 4 ≡ 3 = ap (λ (z : Tag). z.number) k in
    absurd (omega (arith, n))
one_rest t f g x y (inr a) (inl b) e =
    let k : octet_string_tag ≡ bit_string_tag = sym b.0 ∙ a.0 in
    let n : 4 ≡ 3 = ap (λ (z : Tag). z.number) k in
    absurd (omega (arith, n))
one_rest t f g x y (inr a) (inr b) e = ap tail (sym (ap (λ z. z ++ x) a.1) ∙ e ∙ ap (λ z. z ++ y) b.1)

-- a bit string has unused bits, or is cut off
no_bits : (t : Tag) (w f r : List ℕ) → t ≡ bit_string_tag → ((x : List ℕ) → w ≡ 0 ∷ x → ⊥) → IsFront t f → w ≡ f ++ r → ⊥
no_bits t w f r b n (inl a) e =
    let k : octet_string_tag ≡ bit_string_tag = sym a.0 ∙ b in
    let m : 4 ≡ 3 = ap (λ (z : Tag). z.number) k in
    absurd (omega (arith, m))
no_bits t w f r b n (inr a) e = n r (e ∙ ap (λ z. z ++ r) a.1)

pub no_string_if : (t : Tag) (w : List ℕ) (o : Option (Bor (List ℕ))) → t ≡ bit_string_tag → IfNone o ((x : List ℕ) → w ≡ 0 ∷ x → ⊥)
    → IfNone o ((f r : List ℕ) → IsFront t f → w ≡ f ++ r → ⊥)
no_string_if t w None b n = λ f r. no_bits t w f r b n
no_string_if t w (Some x) b n = tt

pub no_front : (t : Tag) (w : List ℕ) → t ≢ octet_string_tag → t ≢ bit_string_tag → (f r : List ℕ) → IsFront t f → w ≡ f ++ r → ⊥
no_front t w n m f r (inl a) e = n a.0
no_front t w n m f r (inr a) e = m a.0

-- what a string holds is its octets
held_all : (mode : Mode) (t : Tag) (w x inside : List ℕ) → (f : List ℕ) × IsFront t f × (w ≡ f ++ x) → Holds mode t w inside → inside ≡ x
held_all mode t w x inside (f, i, e) h = one_rest t h.front f inside x h.is_front i (sym h.are ∙ e)

pub holds : (mode : Mode) (t : Tag) (w x : List ℕ) → (f : List ℕ) × IsFront t f × (w ≡ f ++ x) → x ≢ [] → IsList mode x → Holds mode t w x
holds mode t w x (f, i, e) n l = record { front = f; is_front = i; are = e; some = n; list = l }

pub none_in_octets : (mode : Mode) (t : Tag) (w x : List ℕ) → (f : List ℕ) × IsFront t f × (w ≡ f ++ x) → IsNoList mode x → HoldsNone mode t w
none_in_octets mode t w x p n inside h = n h.list.0 (subst (AreEncodings mode h.list.0) (held_all mode t w x inside p h) h.list.1)

pub none_in_others : (mode : Mode) (t : Tag) (w : List ℕ) → ((f x : List ℕ) → IsFront t f → w ≡ f ++ x → ⊥) → HoldsNone mode t w
none_in_others mode t w n inside h = n h.front inside h.is_front h.are

-- ---- whether octets are the encodings of values

-- a slice never fails
pub slices_faultless : (stream : SliceSource → Stream) → ((x : SliceSource) → (stream x).faults ≡ 0) → (c : Constructed SliceSource)
    → (of_constructed stream c).stream.faults ≡ 0
unfolding of_constructed
slices_faultless stream f c = f c.source.now.source

-- a count that grew isn't 0
grew_past : (old new : ℕ) → Grew old new → new ≢ 0
grew_past old new g z = let n = g.no_smaller in elim g.larger_or_last [ inl h ↦ omega (arith, h, z) | inr h ↦ omega (arith, h, z) ]

done_not_failed : (c : Reading) → IsDone c → c.state ≢ Failed
done_not_failed c (inl h) f = cc
done_not_failed c (inr h) f = let x = h.0 in cc

-- values up to the end of unbounded content are all of its octets
values_there : (i : Reading) (mode : Mode) (w : List ℕ) (ts : Trees) → i.kind ≡ values kind.Unbounded → i.mode ≡ mode → i.stream.rest ≡ w
    → AreEncodings mode ts w → HasValues i
values_there i mode w ts k m r a = record {
  trees = ts;
  all = w;
  after = [];
  encode = subst (λ z. AreEncodings z ts w) (sym m) a;
  rest = r ∙ sym (append-nil w);
  closes = subst (λ z. ClosesBefore z i.mode i.owed w []) (sym k) refl;
}

values_list : (i : Reading) (mode : Mode) (w : List ℕ) → i.kind ≡ values kind.Unbounded → i.mode ≡ mode → i.stream.rest ≡ w → HasValues i → IsList mode w
values_list i mode w k m r h =
    let n : h.after ≡ [] = subst (λ z. ClosesBefore z i.mode i.owed h.all h.after) k h.closes in
    let e : h.all ≡ w = sym (append-nil h.all) ∙ ap (λ z. h.all ++ z) (sym n) ∙ sym h.rest ∙ r in
    (h.trees, subst (AreEncodings mode h.trees) e (subst (λ z. AreEncodings z h.trees h.all) m h.encode))

module _ {C T S : Type 0} (view : C → Reading) (post : MutBor C → Result T (DecodeError S) → MutBor C → Type 0)
    (faultless : (c : C) → (view c).stream.faults ≡ 0) (k : (p : MutBor C) (r : Result T (DecodeError S)) (q : MutBor C) → post p r q
    → AllBy (RefusesSkipAll cause_of) (view p.now) r (view q.now)) (s : Stream) (mode : Mode) where
  all_of : (i : Reading) → IsAllOf s mode i → (i.state ≡ Open → HasValues i) → IsList mode s.rest
  all_of i o h = values_list i mode s.rest o.kind o.mode (ap (λ (z : Stream). z.rest) o.stream) (h o.state)

  pub skipped_list : (x : T) (s' : Stream) → Decodes view post s mode x s' → IsList mode s.rest
  skipped_list x s' d =
      let g = k d.answered.handed (Ok x) d.answered.left d.answered.called in
      all_of d.handed d.over (subst (λ z. z.state ≡ Open → HasValues z) d.answered.handed_is g.value.0)

  no_values : (e : DecodeError S) (i j : Reading) → (cause_of e ≡ of_memory → ⊥) → IsAllOf s mode i → j.stream.faults ≡ 0 → RefusesValues cause_of i e j
      → IsNoList mode s.rest
  no_values e i j n o f (refusals.Refuses.failed x y) ts a = let z = o.state in cc
  no_values e i j n o f (refusals.Refuses.source m x) ts a = absurd (grew_past i.stream.faults j.stream.faults x f)
  no_values e i j n o f (refusals.Refuses.nothing h y) ts a = h.1 (values_there i mode s.rest ts o.kind o.mode (ap (λ (z : Stream). z.rest) o.stream) a)
  no_values e i j n o f (refusals.Refuses.otherwise h) ts a = let x = h.0 in let z = o.kind in cc

  none_skipped : (e : DecodeError S) (i j : Reading) → (cause_of e ≡ of_memory → ⊥) → IsAllOf s mode i → j.stream.faults ≡ 0
      → skipping.RefusesSkipAll cause_of i e j → IsNoList mode s.rest
  none_skipped e i j n o f (skipping.RefusesSkipAll.by_values h) = no_values e i j n o f h
  none_skipped e i j n o f (skipping.RefusesSkipAll.by_depth b w d m) = absurd (n m)

  none_on : (e : DecodeError S) (i j : Reading) → (cause_of e ≡ of_memory → ⊥) → IsAllOf s mode i → RefusesOn cause_of view post i e j → IsNoList mode s.rest
  none_on e i j n o (decoding.by_closure a) =
      let g = k a.handed (Err e) a.left a.called in
      let f = ap (λ (z : Reading). z.stream.faults) (sym a.left_is) ∙ faultless a.left.now in
      none_skipped e i j n o f (subst (λ z. skipping.RefusesSkipAll cause_of i e z) a.left_is
      (subst (λ z. skipping.RefusesSkipAll cause_of z e (view a.left.now)) a.handed_is g.refused.1))
  none_on e i j n o (decoding.left_failed x a z y) = absurd (done_not_failed j (subst IsDone a.left_is (k a.handed (Ok x) a.left a.called).value.1) z)

  pub refused_list : (e : DecodeError S) (s' : Stream) → (cause_of e ≡ of_memory → ⊥) → RefusesDecode cause_of view post s mode e s' → IsNoList mode s.rest
  refused_list e s' n d = none_on e d.handed d.left n d.over d.refuses
