-- A SET OF, written: the items' octets are put in order.
use Rattle.std.proofs.Common.{◌≡◌, ◌≢◌, ℕ, ◌+◌, ◌<◌, Bool, true, false, List, [], ◌∷◌, ◌++◌, map, get_or, length, refl, ap, sym, ◌∙◌, subst, inl, inr, arith}
use Rattle.std.proofs.Common.{Less, Equal}
use Rattle.std.specs.Prelude.{Result, Ok, Err, Option, IsPermutation, IsSortedBy, Any, suc}
use Rattle.std.specs.Cmp.Lexicographic.{slice_cmp}
use Rattle.std.specs.Ordering.{nat_cmp, is_lt, ordering_then}
use Rattle.std.specs.Cmp.{nat_cmp_is, IsStrictWeakOrder}
use Rattle.std.proofs.lemmas.Cmp.{nat_list_cmp_total}
use Rattle.std.proofs.lemmas.List.MinMax.{ranks_by}
use Rattle.std.proofs.lemmas.Bool.{cases_lt}
use Rattle.std.proofs.lemmas.List.Sorted.{IsPermutation-refl, IsPermutation-trans, IsPermutation-cons}
use Rattle.std.proofs.lemmas.List.Sorted.{IsPermutation-map, IsPermutation-swap, All-permutation}
use Rattle.std.proofs.lemmas.List.Elements.{All-from_recursion, recursion_from_All}
use Rattle.std.specs.List.{AllByRecursion}
use Rattle.bcder.specs.declared.encode.error.EncodeError.{EncodeError}
use Rattle.bcder.specs.declared.encode.error.WriteError.{WriteError}
use Rattle.bcder.specs.declared.mode.Mode.{Mode}
use Rattle.bcder.specs.declared.mode.Mode.TheVariants.{Ber, Cer, Der}
use Rattle.bcder.specs.x690.Tree.{Trees, no_trees, ◌+++◌}
use Rattle.bcder.specs.x690.Encoding.{AreEncodings}
use Rattle.bcder.specs.calls.Captured.{Kept}
use Rattle.bcder.specs.calls.Meaning.{Encoded, Meaning, IsLawful}
use Rattle.bcder.specs.calls.Meaning.{nothing, EachOf, Joined}
use Rattle.bcder.specs.calls.Gathered.{suits, KeptMeans, HoldsMeant}
use Rattle.bcder.specs.calls.Encoders.{RefusesBy, SizeOfValues, Writes}
use Rattle.bcder.specs.laws.Joined.{EachOf_lawful}
use Rattle.bcder.specs.laws.Gathered.{kept_lawful}
use Rattle.bcder.specs.laws.Lists.{AreEncodings-join}
use Rattle.bcder.proofs.Lemmas.{lacks_more}
use Rattle.asn1.specs.Rearranging.{same_members}
use Rattle.asn1.specs.SetsWritten.{IsUpTo, IsUpToFirst, AreInOrder, flat, AreWrittenEach, AreWrittenInOrder, InOrder, WritesSetOf, MayLackForSet}
use Rattle.asn1.specs.SetsWritten.{octets_of_each, AreKeptIn, AreKeptInOrder}
use Rattle.asn1.specs.SetsLaws.{up_to_decided, same_size, as_joined}

every_shuffled : {X : Type 0} (P : X → Type 0) (xs ys : List X) → IsPermutation xs ys → AllByRecursion P xs → AllByRecursion P ys
every_shuffled P xs ys p h = recursion_from_All P ys (All-permutation P xs ys p (All-from_recursion P xs h))

-- ---- a list in order

other_way : (v w : List ℕ) → (IsUpTo v w → ⊥) → IsUpTo w v
other_way [] w n = absurd (n tt)
other_way (x ∷ v) [] n = tt
other_way (x ∷ v) (y ∷ w) n = elim (cases_lt x y) [
  | inl h ↦ absurd (n (inl h))
  | inr h ↦ elim (cases_lt y x) [
    | inl g ↦ inl g
    | inr g ↦ (let e : x ≡ y = omega (arith, h, g) in inr (sym e, other_way v w (λ k. n (inr (e, k)))))
  ]
]

record Inserted (v : List ℕ) (vs : List (List ℕ)) : Type 0 where
  list : List (List ℕ)
  rearranged : IsPermutation (v ∷ vs) list
  ascend : AreInOrder list
  first : (w : List ℕ) → IsUpTo w v → IsUpToFirst w vs → IsUpToFirst w list

inserted : (v : List ℕ) (vs : List (List ℕ)) → AreInOrder vs → Inserted v vs
inserted v [] h = record { list = v ∷ []; rearranged = IsPermutation-refl (v ∷ []); ascend = (tt, tt); first = λ w k l. k }
inserted v (u ∷ us) h = elim (up_to_decided v u) [
  | inl k ↦ record { list = v ∷ (u ∷ us); rearranged = IsPermutation-refl (v ∷ (u ∷ us)); ascend = (k, h); first = λ w p q. p }
  | inr n ↦ (let r = inserted v us h.1 in
      record {
        list = u ∷ r.list;
        rearranged =
            IsPermutation-trans (v ∷ (u ∷ us)) (u ∷ (v ∷ us)) (u ∷ r.list)
            (IsPermutation-swap (v ∷ (u ∷ us)) (u ∷ (v ∷ us)) 0 1 (omega arith) (omega arith) refl) (IsPermutation-cons u (v ∷ us) r.list r.rearranged);
        ascend = (r.first u (other_way v u n) h.0, r.ascend);
        first = λ w p q. q;
      })
]

record Sorted (vs : List (List ℕ)) : Type 0 where
  list : List (List ℕ)
  rearranged : IsPermutation vs list
  ascend : AreInOrder list

sorted : (vs : List (List ℕ)) → Sorted vs
sorted [] = record { list = []; rearranged = IsPermutation-refl []; ascend = tt }
sorted (v ∷ vs) =
    let r = sorted vs in
    let i = inserted v r.list r.ascend in
    record {
      list = i.list;
      rearranged = IsPermutation-trans (v ∷ vs) (v ∷ r.list) i.list (IsPermutation-cons v vs r.list r.rearranged) i.rearranged;
      ascend = i.ascend;
    }

-- ---- the values of the pieces

-- octets that are encodings
AreSome : Mode → List ℕ → Type 0
AreSome mode v = (ts : Trees) × AreEncodings mode ts v

flat_encodes : (mode : Mode) (vs : List (List ℕ)) → AllByRecursion (AreSome mode) vs → AreSome mode (flat vs)
unfolding AreSome
flat_encodes mode [] h = (no_trees, refl)
flat_encodes mode (v ∷ vs) h =
    let r = flat_encodes mode vs h.1 in
    (h.0.0 +++ r.0, AreEncodings-join mode h.0.0 r.0 v (flat vs) h.0.1 r.1)

module _ {T : Type 0} {mode : Mode} (W : T → Meaning → Type 0) (l : (x : T) → IsLawful mode (W x)) where
  each_encodes : (xs : List T) (vs : List (List ℕ)) → AreWrittenEach W xs vs → AllByRecursion (AreSome mode) vs
  unfolding AreSome
  each_encodes [] [] h = tt
  each_encodes [] (v ∷ vs) h = absurd h
  each_encodes (x ∷ xs) [] h = absurd h
  each_encodes (x ∷ xs) (v ∷ vs) ((e, m, q), h) = ((e.values, subst (AreEncodings mode e.values) (sym q) ((l x).encodes e m)), each_encodes xs vs h)

  record Parts (xs : List T) (y : Encoded) : Type 0 where
    pieces : List (List ℕ)
    are : AreWrittenEach W xs pieces
    octets : y.octets ≡ flat pieces

  parts : (xs : List T) (y : Encoded) → EachOf W xs (Ok y) → Parts xs y
  parts [] y m = record { pieces = []; are = tt; octets = (let q : y ≡ nothing = cc in ap (λ (z : Encoded). z.octets) q) }
  parts (x ∷ xs) y (d, z, m, n, q) =
      let r = parts xs z n in
      record {
        pieces = d.octets ∷ r.pieces;
        are = ((d, m, refl), r.are);
        octets = ap (λ (a : Encoded). a.octets) q ∙ ap (λ a. d.octets ++ a) r.octets;
      }

  -- what is written of the items in a row has the size of them in order
  record Ordered (xs : List T) (y : Encoded) : Type 0 where
    what : Encoded
    is : AreWrittenInOrder mode W xs what
    size : length y.octets ≡ length what.octets

  ordered : (xs : List T) (y : Encoded) → Joined (EachOf W xs) (Ok y) → Ordered xs y
  unfolding AreSome
  ordered xs y (m, f) =
      let p = parts xs y m in
      let s = sorted p.pieces in
      let e = flat_encodes mode s.list (every_shuffled (AreSome mode) p.pieces s.list s.rearranged (each_encodes xs p.pieces p.are)) in
      let z : length y.octets ≡ length (flat s.list) = ap length p.octets ∙ same_size p.pieces s.list (same_members p.pieces s.list s.rearranged) in
      record {
        what = record { values = e.0; octets = flat s.list };
        is = record {
          pieces = p.pieces;
          are = p.are;
          ordered = s.list;
          rearranged = s.rearranged;
          ascend = s.ascend;
          octets = refl;
          encode = e.1;
          fits = omega (arith, f, z);
        };
        size = z;
      }

  -- ---- what the calls say

  -- the size of the items in a row is that of them in order
  in_order_size : (xs : List T) (L K : Type 0) → (L → K) → (r : Result ℕ EncodeError) → SizeOfValues (Joined (EachOf W xs)) L r
      → SizeOfValues (InOrder mode W xs) K r
  in_order_size xs L K f (Ok n) (y, m, q) = (let o = ordered xs y m in (o.what, o.is, q ∙ o.size))
  in_order_size xs L K f (Err e) h = record { meant = h.meant; lacking = λ q. f (h.lacking q) }

pub set_size : {T : Type 0} (mode : Mode) (W : T → Meaning → Type 0) (l : (x : T) → IsLawful mode (W x)) (L : T → Type 0) (xs : List T)
    (r : Result ℕ EncodeError)
    → SizeOfValues (Joined (EachOf W xs)) (Any L xs) r → SizeOfValues (WritesSetOf mode W xs) (MayLackForSet mode L xs) r
set_size Ber W l L xs (Ok n) h = h
set_size Ber W l L xs (Err e) h = record { meant = h.meant; lacking = λ q. inl (h.lacking q) }
set_size Cer W l L xs r h = in_order_size W l xs (Any L xs) (MayLackForSet Cer L xs) (λ a. inl a) r h
set_size Der W l L xs r h = in_order_size W l xs (Any L xs) (MayLackForSet Der L xs) (λ a. inl a) r h

-- ---- octets that are kept, written

suits_itself : (mode : Mode) → suits mode mode ≡ false → ⊥
suits_itself Ber h = cc
suits_itself Cer h = cc
suits_itself Der h = cc

module _ (mode : Mode) where
  abbrev KeptRow : List Kept → Meaning → Type 0
  KeptRow cs = EachOf (λ (c : Kept). KeptMeans c mode) cs

  pub flat_of : (cs : List Kept) (y : Encoded) → KeptRow cs (Ok y) → y.octets ≡ flat (octets_of_each cs)
  flat_of [] y m = (let q : y ≡ nothing = cc in ap (λ (z : Encoded). z.octets) q)
  flat_of (c ∷ cs) y (d, z, m, n, q) =
      ap (λ (a : Encoded). a.octets) q ∙ ap (λ a. a ++ z.octets) m.2 ∙ ap (λ a. c.octets ++ a) (flat_of cs z n)

  row_encodes : (cs : List Kept) (y : Encoded) → KeptRow cs (Ok y) → AreEncodings mode y.values y.octets
  row_encodes cs y m = (EachOf_lawful {P = λ _. Unit {0}} mode (λ c p. kept_lawful c mode) cs (λ i d below. tt)).encodes y m

  none_refused : (cs : List Kept) → AreKeptIn mode cs → (e : EncodeError) → KeptRow cs (Err e) → ⊥
  none_refused [] h e m = cc
  none_refused (c ∷ cs) (q, h) e (inl m) = suits_itself mode (subst (λ z. suits z mode ≡ false) q m.0)
  none_refused (c ∷ cs) (q, h) e (inr (x, m, n)) = none_refused cs h e n

module _ {T : Type 0} (mode : Mode) (W : T → Meaning → Type 0) (xs : List T) (cs : List Kept) (k : AreKeptInOrder mode W xs cs) where
  kept_in_order : (m : Meaning) → Joined (KeptRow mode cs) m → InOrder mode W xs m
  kept_in_order (Ok y) (m, f) = record {
    pieces = k.pieces;
    are = k.are;
    ordered = octets_of_each cs;
    rearranged = k.rearranged;
    ascend = k.ascend;
    octets = flat_of mode cs y m;
    encode = row_encodes mode cs y m;
    fits = f;
  }
  kept_in_order (Err e) (inl m) = absurd (none_refused mode cs k.in_mode e m)
  kept_in_order (Err e) (inr (q, (z, m, s))) =
      let y = as_joined W xs k.pieces k.are in
      let n = same_size k.pieces (octets_of_each cs) (same_members k.pieces (octets_of_each cs) k.rearranged) in
      inr (q, (y.0, y.1, omega (arith, s, ap length (flat_of mode cs z m), n, ap length y.2)))

-- ---- of each mode

module _ {T : Type 0} (W : T → Meaning → Type 0) (xs : List T) where
  as_set : (mode : Mode) → mode ≢ Ber → (m : Meaning) → InOrder mode W xs m → WritesSetOf mode W xs m
  as_set Ber ne m h = absurd (ne refl)
  as_set Cer ne m h = h
  as_set Der ne m h = h

  refusal_of_set : (mode : Mode) (e : EncodeError) → Joined (EachOf W xs) (Err e) → WritesSetOf mode W xs (Err e)
  refusal_of_set Ber e h = h
  refusal_of_set Cer e h = h
  refusal_of_set Der e h = h

  -- none and one are in order
  short_ascends : (ys : List T) (vs : List (List ℕ)) → AreWrittenEach W ys vs → length ys < 2 → AreInOrder vs
  short_ascends [] [] h s = tt
  short_ascends [] (v ∷ vs) h s = absurd h
  short_ascends (y ∷ ys) [] h s = absurd h
  short_ascends (y ∷ []) (v ∷ []) h s = (tt, tt)
  short_ascends (y ∷ []) (v ∷ (w ∷ ws)) h s = absurd h.1
  short_ascends (y ∷ (z ∷ zs)) (v ∷ vs) h s = absurd (omega (arith, s))

  module _ {mode : Mode} (l : (x : T) → IsLawful mode (W x)) where
    short_in_order : length xs < 2 → (m : Meaning) → Joined (EachOf W xs) m → InOrder mode W xs m
    short_in_order s (Err e) h = h
    short_in_order s (Ok y) (m, f) =
        let p = parts W l xs y m in
        record {
          pieces = p.pieces;
          are = p.are;
          ordered = p.pieces;
          rearranged = IsPermutation-refl p.pieces;
          ascend = short_ascends xs p.pieces p.are s;
          octets = p.octets;
          encode = (EachOf_lawful {P = λ _. Unit {0}} mode (λ x p. l x) xs (λ i d below. tt)).encodes y m;
          fits = f;
        }

  row_in_set : (mode : Mode) → ((x : T) → IsLawful mode (W x)) → (mode ≢ Ber → length xs < 2) → (m : Meaning) → Joined (EachOf W xs) m → WritesSetOf mode W xs m
  row_in_set Ber l s m h = h
  row_in_set Cer l s m h = short_in_order l (s (λ q. cc)) m h
  row_in_set Der l s m h = short_in_order l (s (λ q. cc)) m h

  -- ---- what is written means what it is

  module _ {L K : Type 0} (f : L → K) {M N : Meaning → Type 0} (to : (m : Meaning) → M m → N m) where
    also_refuses : (e : EncodeError) → RefusesBy M L e → RefusesBy N K e
    also_refuses e h = record { meant = λ n. to (Err e) (h.meant n); lacking = λ q. f (h.lacking q) }

    also_writes : {old new : Option (List ℕ)} (r : Result (Unit {0}) WriteError) → Writes (λ (e : Encoded). e.octets) M L old new r → Writes (λ (e : Encoded). e.octets) N K old new r
    also_writes r h = record {
      went = elim h.went [
        | inl w ↦ inl (w.0, to (Ok w.0) w.1, lacks_more K f w.2)
        | inr w ↦ inr (w.0, w.1, also_refuses w.0 w.2, w.3)
      ];
    }

  pub row_written : (mode : Mode) → ((x : T) → IsLawful mode (W x)) → (mode ≢ Ber → length xs < 2) → (L : T → Type 0) {old new : Option (List ℕ)}
      (r : Result (Unit {0}) WriteError) → Writes (λ (e : Encoded). e.octets) (Joined (EachOf W xs)) (Any L xs) old new r
      → Writes (λ (e : Encoded). e.octets) (WritesSetOf mode W xs) (MayLackForSet mode L xs) old new r
  row_written mode l s L r w = also_writes (λ a. inl a) (row_in_set mode l s) r w

  pub kept_written : (mode : Mode) → mode ≢ Ber → (cs : List Kept) → AreKeptInOrder mode W xs cs → (L : Type 0) → (K : Type 0) → (L → K)
      → {old new : Option (List ℕ)} (r : Result (Unit {0}) WriteError)
      → Writes (λ (e : Encoded). e.octets) (Joined (EachOf (λ (c : Kept). KeptMeans c mode) cs)) L old new r → Writes (λ (e : Encoded). e.octets) (WritesSetOf mode W xs) K old new r
  kept_written mode ne cs k L K f r w = also_writes f (λ m h. as_set mode ne m (kept_in_order mode W xs cs k m h)) r w

  pub set_refused : (mode : Mode) (L : T → Type 0) (e : EncodeError) → RefusesBy (Joined (EachOf W xs)) (Any L xs) e
      → RefusesBy (WritesSetOf mode W xs) (MayLackForSet mode L xs) e
  set_refused mode L e h = record { meant = λ n. refusal_of_set mode e (h.meant n); lacking = λ q. inl (h.lacking q) }

-- ---- octets that are put in order

module _ {T : Type 0} (W : T → Meaning → Type 0) where
  pub each_more : (xs : List T) (vs : List (List ℕ)) (x : T) (e : Encoded) → AreWrittenEach W xs vs → W x (Ok e)
      → AreWrittenEach W (xs ++ (x ∷ [])) (vs ++ (e.octets ∷ []))
  each_more [] [] x e h m = ((e, m, refl), tt)
  each_more [] (v ∷ vs) x e h m = absurd h
  each_more (y ∷ ys) [] x e h m = absurd h
  each_more (y ∷ ys) (v ∷ vs) x e h m = (h.0, each_more ys vs x e h.1 m)

pub octets_more : (cs : List Kept) (c : Kept) → octets_of_each (cs ++ (c ∷ [])) ≡ octets_of_each cs ++ (c.octets ∷ [])
octets_more [] c = refl
octets_more (d ∷ cs) c = ap (λ z. d.octets ∷ z) (octets_more cs c)

pub kept_more : (mode : Mode) (cs : List Kept) (c : Kept) → AreKeptIn mode cs → c.mode ≡ mode → AreKeptIn mode (cs ++ (c ∷ []))
kept_more mode [] c h q = (q, tt)
kept_more mode (d ∷ cs) c h q = (h.0, kept_more mode cs c h.1 q)

-- so many of the items were written
pub record KeptSoFar {T : Type 0} (mode : Mode) (W : T → Meaning → Type 0) (xs : List T) (cs : List Kept) : Type 0 where
  pub each : AreWrittenEach W xs (octets_of_each cs)
  pub in_mode : AreKeptIn mode cs

module _ {T : Type 0} (mode : Mode) (W : T → Meaning → Type 0) where
  pub none_kept_yet : KeptSoFar mode W [] []
  none_kept_yet = record { each = tt; in_mode = tt }

  pub one_kept : (xs : List T) (cs : List Kept) (x : T) (c : Kept) → KeptSoFar mode W xs cs → HoldsMeant (W x) mode c
      → KeptSoFar mode W (xs ++ (x ∷ [])) (cs ++ (c ∷ []))
  one_kept xs cs x c k h = record {
    each =
        subst (AreWrittenEach W (xs ++ (x ∷ []))) (ap (λ v. octets_of_each cs ++ (v ∷ [])) (sym (ap (λ (z : Kept). z.octets) h.holds)) ∙ sym (octets_more cs c))
        (each_more W xs (octets_of_each cs) x h.what k.each h.meant);
    in_mode = kept_more mode cs c k.in_mode (ap (λ (z : Kept). z.mode) h.holds);
  }

not_less : (v w : List ℕ) → is_lt (slice_cmp nat_cmp w v) ≡ false → IsUpTo v w
not_less [] w h = tt
not_less (x ∷ v) [] h = absurd (let z : true ≡ false = h in cc)
not_less (x ∷ v) (y ∷ w) h = elim (cases_lt x y) [
  | inl a ↦ inl a
  | inr a ↦ elim (cases_lt y x) [
    | inl b ↦ absurd (let z : true ≡ false = subst (λ o. is_lt (ordering_then o (slice_cmp nat_cmp w v)) ≡ false) (sym (nat_cmp_is y x Less b)) h in cc)
    | inr b ↦ (let e : y ≡ x = omega (arith, a, b) in
        inr (sym e, not_less v w (subst (λ o. is_lt (ordering_then o (slice_cmp nat_cmp w v)) ≡ false) (sym (nat_cmp_is y x Equal e)) h)))
  ]
]

-- by which they are compared
abbrev pub less : Kept → Kept → Bool
less c d = is_lt (slice_cmp nat_cmp c.octets d.octets)

two_on : (k : ℕ) → suc k + 1 ≡ suc (k + 1)
two_on k = omega arith

in_order_of : (cs : List Kept) → IsSortedBy less cs → AreInOrder (octets_of_each cs)
in_order_of [] h = tt
in_order_of (c ∷ []) h = (tt, tt)
in_order_of (c ∷ (d ∷ cs)) h = (
  not_less c.octets d.octets (h 0 c (omega arith) (omega arith)),
  in_order_of (d ∷ cs) (λ k e a b.
      subst (λ n. less (get_or (c ∷ (d ∷ cs)) n e) (get_or (d ∷ cs) k e) ≡ false) (two_on k) (h (suc k) e (omega arith) (omega (arith, b)))),
)

as_map : (cs : List Kept) → map (λ (c : Kept). c.octets) cs ≡ octets_of_each cs
as_map [] = refl
as_map (c ∷ cs) = ap (λ z. c.octets ∷ z) (as_map cs)

module _ (mode : Mode) where
  as_all : (cs : List Kept) → AreKeptIn mode cs → AllByRecursion (λ (c : Kept). c.mode ≡ mode) cs
  as_all [] h = tt
  as_all (c ∷ cs) h = (h.0, as_all cs h.1)

  of_all : (cs : List Kept) → AllByRecursion (λ (c : Kept). c.mode ≡ mode) cs → AreKeptIn mode cs
  of_all [] h = tt
  of_all (c ∷ cs) h = (h.0, of_all cs h.1)

  pub kept_sorted : {T : Type 0} (W : T → Meaning → Type 0) (xs : List T) (cs ds : List Kept) → KeptSoFar mode W xs cs → IsPermutation cs ds
      → IsSortedBy less ds
      → AreKeptInOrder mode W xs ds
  kept_sorted W xs cs ds k p s = record {
    pieces = octets_of_each cs;
    are = k.each;
    rearranged =
        subst (λ z. IsPermutation z (octets_of_each ds)) (as_map cs)
        (subst (IsPermutation (map (λ (c : Kept). c.octets) cs)) (as_map ds) (IsPermutation-map (λ (c : Kept). c.octets) cs ds p));
    ascend = in_order_of ds s;
    in_mode = of_all ds (every_shuffled (λ (c : Kept). c.mode ≡ mode) cs ds p (as_all cs k.in_mode));
  }

pub less_is_order : IsStrictWeakOrder less
less_is_order = ranks_by nat_list_cmp_total (λ (c : Kept). c.octets)
