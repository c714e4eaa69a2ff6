-- In CER and DER the octets of an octet string tell the value.
use Rattle.std.proofs.Common.{◌≡◌, ℕ, ◌<◌, ◌≤◌, Bool, true, false, List, [], ◌∷◌, ◌++◌, length, take, drop}
use Rattle.std.proofs.Common.{refl, ap, sym, ◌∙◌, arith, append-nil, subst, inl, inr}
use Rattle.std.specs.Prelude.{nat_eq}
use Rattle.std.specs.List.{concat}
use Rattle.std.proofs.lemmas.Bool.Decides.{nat_tests}
use Rattle.std.proofs.lemmas.List.{length-append, take_at, drop_at}
use Rattle.bcder.specs.declared.mode.Mode.TheVariants.{Ber, Cer, Der}
use Rattle.bcder.specs.x690.Identifier.{Tag}
use Rattle.bcder.specs.x690.Tree.{Tree, primitive, constructed, Trees, no_trees, ◌∷ₜ◌}
use Rattle.bcder.specs.x690.Encoding.{IsEncoding}
use Rattle.bcder.specs.calls.StringOctets.{whole, cut, octets_of, parts}
use Rattle.bcder.specs.x690.OctetString.{octet_string_tag, segments_of, flat, IsPiece, IsFull, IsLast, FollowFull, AreSegmentsIn, IsOctetString}
use Rattle.bcder.specs.calls.Written.{PrimitiveInDer, PrimitiveInCer, OneString, OneStringEncoding, PartsJoin, MeansFlat, MeansSegments}
use Rattle.bcder.specs.calls.Valued.{tag_of}
use Rattle.bcder.specs.laws.Canonical.{one_spelling}
use Rattle.bcder.proofs.Segments.{ArePieces, size_of, in_cer}

-- ---- segments in CER

joined : Trees → List ℕ
joined ts = concat (segments_of ts)

-- the octets of a primitive segment
record Holds (t : Tree) (w : List ℕ) : Type 0 where
  is : t ≡ primitive octet_string_tag w
  some : 1 ≤ length w
  most : length w ≤ 1000

holds : (t : Tree) → IsPiece IsLast t → (w : List ℕ) × Holds t w
holds (primitive t contents) h = (contents, record { is = ap (λ z. primitive z contents) h.0; some = h.1.0; most = h.1.1 })
holds (constructed t ts) h = absurd h

joined_with : (t : Tree) (ts : Trees) (w : List ℕ) → t ≡ primitive octet_string_tag w → joined (t ∷ₜ ts) ≡ w ++ joined ts
unfolding joined
joined_with t ts w e = ap (λ z. concat (segments_of (z ∷ₜ ts))) e

none_behind : (ts : Trees) → ArePieces false ts → ts ≡ no_trees
none_behind no_trees h = refl
none_behind (t ∷ₜ ts) h = absurd h

no_octets : joined no_trees ≡ []
unfolding joined
no_octets = refl

is_1000 : (n : ℕ) → nat_eq n 1000 ≡ true → n ≡ 1000
is_1000 n e = grind (arith, nat_tests)

not_1000 : (n : ℕ) → nat_eq n 1000 ≡ false → n ≡ 1000 → ⊥
not_1000 n e is = (let x : false ≡ true = sym e ∙ ap (λ z. nat_eq z 1000) is in cc)

-- the fronts of one length are the same, and so is what is behind them
fronts : (v w x y : List ℕ) → v ++ x ≡ w ++ y → length v ≡ length w → (v ≡ w) × (x ≡ y)
fronts v w x y e l = (
  sym (take_at v x (length w) l) ∙ ap (take (length w)) e ∙ take_at w y (length w) refl,
  sym (drop_at v x (length w) l) ∙ ap (drop (length w)) e ∙ drop_at w y (length w) refl,
)

both_last : (t u : Tree) (ts us : Trees) (v w : List ℕ) → Holds t v → Holds u w → ArePieces false ts → ArePieces false us → v ++ joined ts ≡ w ++ joined us
    → (t ∷ₜ ts) ≡ (u ∷ₜ us)
both_last t u ts us v w h k p q e =
    let a : ts ≡ no_trees = none_behind ts p in
    let b : us ≡ no_trees = none_behind us q in
    let c : v ≡ w = sym (append-nil v) ∙ ap (λ z. v ++ z) (sym no_octets ∙ ap joined (sym a)) ∙ e ∙ ap (λ z. w ++ z) (ap joined b ∙ no_octets) ∙ append-nil w in
    rw (a, b, h.is, k.is, c) refl

too_short : (us : Trees) (v w x : List ℕ) → length v ≡ 1000 → (length w ≡ 1000 → ⊥) → length w ≤ 1000 → ArePieces false us → v ++ x ≡ w ++ joined us → ⊥
too_short us v w x f n m q e =
    let b : joined us ≡ [] = ap joined (none_behind us q) ∙ no_octets in
    let c : v ++ x ≡ w = e ∙ ap (λ z. w ++ z) b ∙ append-nil w in
    n (omega (arith, ap length c, length-append v x, f, m))

by_size : (t u : Tree) (ts us : Trees) (v w : List ℕ) → Holds t v → Holds u w → (f g : Bool) → nat_eq (length v) 1000 ≡ f → nat_eq (length w) 1000 ≡ g
    → ArePieces (nat_eq (length v) 1000) ts → ArePieces (nat_eq (length w) 1000) us → v ++ joined ts ≡ w ++ joined us
    → (ArePieces true ts → ArePieces true us → joined ts ≡ joined us → ts ≡ us) → (t ∷ₜ ts) ≡ (u ∷ₜ us)
by_size t u ts us v w h k true true a b p q e more =
    let s = fronts v w (joined ts) (joined us) e (is_1000 (length v) a ∙ sym (is_1000 (length w) b)) in
    let r : ts ≡ us = more (subst (λ z. ArePieces z ts) a p) (subst (λ z. ArePieces z us) b q) s.1 in
    let x : v ≡ w = s.0 in
    rw (h.is, k.is, x, r) refl
by_size t u ts us v w h k true false a b p q e more =
    absurd (too_short us v w (joined ts) (is_1000 (length v) a) (not_1000 (length w) b) k.most (subst (λ z. ArePieces z us) b q) e)
by_size t u ts us v w h k false true a b p q e more =
    absurd (too_short ts w v (joined us) (is_1000 (length w) b) (not_1000 (length v) a) h.most (subst (λ z. ArePieces z ts) a p) (sym e))
by_size t u ts us v w h k false false a b p q e more = both_last t u ts us v w h k (subst (λ z. ArePieces z ts) a p) (subst (λ z. ArePieces z us) b q) e

one_cut : (ts us : Trees) → ArePieces true ts → ArePieces true us → joined ts ≡ joined us → ts ≡ us
one_cut no_trees no_trees p q e = refl
one_cut no_trees (u ∷ₜ us) p q e =
    let k = holds u q.0 in
    let s = k.1.some in
    absurd (omega (arith, s, ap length (sym no_octets ∙ e ∙ joined_with u us k.0 k.1.is), length-append k.0 (joined us)))
one_cut (t ∷ₜ ts) no_trees p q e =
    let h = holds t p.0 in
    let s = h.1.some in
    absurd (omega (arith, s, ap length (sym no_octets ∙ sym e ∙ joined_with t ts h.0 h.1.is), length-append h.0 (joined ts)))
one_cut (t ∷ₜ ts) (u ∷ₜ us) p q e =
    let h = holds t p.0 in
    let k = holds u q.0 in
    by_size t u ts us h.0 k.0 h.1 k.1 (nat_eq (length h.0) 1000) (nat_eq (length k.0) 1000) refl refl
    (subst (λ z. ArePieces (nat_eq (size_of z) 1000) ts) h.1.is p.1)
    (subst (λ z. ArePieces (nat_eq (size_of z) 1000) us) k.1.is q.1)
    (sym (joined_with t ts h.0 h.1.is) ∙ e ∙ joined_with u us k.0 k.1.is)
    (λ x y z. one_cut ts us x y z)

full : (t : Tree) → IsPiece IsFull t → (w : List ℕ) × ((t ≡ primitive octet_string_tag w) × (length w ≡ 1000))
full (primitive t contents) h = (contents, (ap (λ z. primitive z contents) h.0, h.1))
full (constructed t ts) h = absurd h

-- together they have over 1000 octets
follow_some : (ts : Trees) → FollowFull ts → 1 ≤ length (joined ts)
follow_some no_trees h = absurd h
follow_some (t ∷ₜ no_trees) h =
    let k = holds t h in
    let s = k.1.some in
    omega (arith, s, ap length (joined_with t no_trees k.0 k.1.is), length-append k.0 (joined no_trees))
follow_some (t ∷ₜ (u ∷ₜ us)) h =
    let s = follow_some (u ∷ₜ us) h.1 in
    let k = full t h.0 in
    omega (arith, s, ap length (joined_with t (u ∷ₜ us) k.0 k.1.0), length-append k.0 (joined (u ∷ₜ us)))

pub over_1000 : (ts : Trees) → AreSegmentsIn Cer ts → 1000 < length (concat (segments_of ts))
unfolding joined
over_1000 no_trees h = absurd h
over_1000 (t ∷ₜ ts) h =
    let k = full t h.0 in
    let s = follow_some ts h.1 in
    let l = k.1.1 in
    omega (arith, s, l, ap length (joined_with t ts k.0 k.1.0), length-append k.0 (joined ts))

flat_primitive : (t : Tag) (w : List ℕ) → flat (primitive t w) ≡ w
flat_primitive t w = append-nil w

-- ---- the laws

pub primitive_in_der : PrimitiveInDer
primitive_in_der (primitive t w) h = ap (primitive t) (sym (flat_primitive t w))
primitive_in_der (constructed t ts) h = absurd h

pub primitive_in_cer : PrimitiveInCer
primitive_in_cer (primitive t w) h = inl (subst (λ z. length z ≤ 1000) (sym (flat_primitive t w)) h, ap (primitive t) (sym (flat_primitive t w)))
primitive_in_cer (constructed t ts) h = inr (over_1000 ts h, ts, refl)

one_in_cer : (t u : Tree) → IsOctetString Cer t → IsOctetString Cer u → tag_of t ≡ tag_of u → flat t ≡ flat u → t ≡ u
unfolding joined
one_in_cer (primitive t v) (primitive u w) h k e f = (let a : t ≡ u = e in let b : v ≡ w = sym (flat_primitive t v) ∙ f ∙ flat_primitive u w in rw (a, b) refl)
one_in_cer (primitive t v) (constructed u us) h k e f = absurd (let l : 1000 < length (concat (segments_of us)) = over_1000 us k in
    let s : v ≡ concat (segments_of us) = sym (flat_primitive t v) ∙ f in omega (arith, h, l, ap length s))
one_in_cer (constructed t ts) (primitive u w) h k e f = absurd (let l : 1000 < length (concat (segments_of ts)) = over_1000 ts h in
    let s : concat (segments_of ts) ≡ w = f ∙ flat_primitive u w in omega (arith, k, l, ap length s))
one_in_cer (constructed t ts) (constructed u us) h k e f =
    (let a : t ≡ u = e in let b : ts ≡ us = one_cut ts us (in_cer ts h).0 (in_cer us k).0 f in rw (a, b) refl)

one_in_der : (t u : Tree) → IsOctetString Der t → IsOctetString Der u → tag_of t ≡ tag_of u → flat t ≡ flat u → t ≡ u
one_in_der t u h k e f =
    primitive_in_der t h ∙ (let z : primitive (tag_of t) (flat t) ≡ primitive (tag_of u) (flat u) = rw (e, f) refl in z) ∙ sym (primitive_in_der u k)

pub one_string : OneString
one_string Ber n t u h k e f = absurd (n refl)
one_string Cer n t u h k e f = one_in_cer t u h k e f
one_string Der n t u h k e f = one_in_der t u h k e f

pub one_string_encoding : OneStringEncoding
one_string_encoding mode n t u v w h k e f a b = one_spelling mode n u v w (subst (λ z. IsEncoding mode z v) (one_string mode n t u h k e f) a) b

pub parts_join : PartsJoin
parts_join (whole []) = refl
parts_join (whole (b ∷ w)) = append-nil (b ∷ w)
parts_join (cut kept ps) = refl

pub means_flat : MeansFlat
means_flat mode (primitive t w) s h = ap octets_of h ∙ sym (flat_primitive t w)
means_flat mode (constructed t ts) s h = ap octets_of h.3

pub means_segments : MeansSegments
means_segments mode tag ts s h = ap parts h.3
