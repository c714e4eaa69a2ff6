-- Values that are put in order.
use Rattle.std.proofs.Common.{◌≡◌, ◌≢◌, ℕ, ◌+◌, ◌<◌, Bool, true, false, List, [], ◌∷◌, ◌++◌, map, get_or, length, refl, ap, sym, ◌∙◌, subst, inl, inr}
use Rattle.std.proofs.Common.{Less, Equal, set, suc, ◌-◌, take, drop, arith, ◌⊎◌}
use Rattle.std.specs.Prelude.{IsPermutation, IsSortedBy, sum_by}
use Rattle.std.specs.Cmp.Lexicographic.{slice_cmp}
use Rattle.std.specs.Cmp.{nat_cmp_is}
use Rattle.std.specs.Ordering.{nat_cmp, is_lt, ordering_then}
use Rattle.std.specs.List.{swap, AllByRecursion}
use Rattle.std.specs.List.Sorted.{apply_swaps, SwapsInRange}
use Rattle.std.proofs.Math.ListN.{get_or-map}
use Rattle.std.proofs.lemmas.Bool.{cases_lt}
use Rattle.std.proofs.lemmas.List.{map-set, length-map, length-append, length-drop, take_all, take-append-drop}
use Rattle.std.proofs.lemmas.List.Elements.{All-from_recursion, recursion_from_All}
use Rattle.std.proofs.lemmas.List.Sorted.{IsPermutation-refl, IsPermutation-map, All-permutation, sum_by-IsPermutation}
use Rattle.std.proofs.lemmas.List.Sums.{sum_by-cons}
use Rattle.bcder.specs.declared.mode.Mode.{Mode}
use Rattle.bcder.specs.declared.mode.Mode.TheVariants.{Ber}
use Rattle.bcder.specs.x690.Encoding.{IsEncoding}
use Rattle.bcder.specs.laws.Canonical.{one_spelling}
use Rattle.bcder.specs.calls.Valued.{tag_of}
use Rattle.encodings.specs.declared.sets.Copied.{Copied}
use Rattle.encodings.specs.declared.sets.Element.{Element}
use Rattle.encodings.specs.Sets.{place, IsNotAfter, MayPrecede, AreInOrder, AreArranged, each}
use Rattle.encodings.specs.Sorting.{Pair, octets_of, trees_of, AreEncoded, AreMarks, AreKeyed, IsUpTo, Ascend, PutsInOrder, Arranged, AreArrangedPairs}

-- ---- the order

not_after : (v w : List ℕ) → is_lt (slice_cmp nat_cmp w v) ≡ false → IsNotAfter v w
not_after [] w h = tt
not_after (x ∷ v) [] h = absurd (let z : true ≡ false = h in cc)
not_after (x ∷ v) (y ∷ w) h = elim (cases_lt x y) [
  | inl a ↦ inl a
  | inr a ↦ elim (cases_lt y x) [
    | inl b ↦ absurd (let z : true ≡ false = subst (λ o. is_lt (ordering_then o (slice_cmp nat_cmp w v)) ≡ false) (sym (nat_cmp_is y x Less b)) h in cc)
    | inr b ↦ (let e : y ≡ x = omega (arith, a, b) in
        inr (sym e, not_after v w (subst (λ o. is_lt (ordering_then o (slice_cmp nat_cmp w v)) ≡ false) (sym (nat_cmp_is y x Equal e)) h)))
  ]
]

abbrev pub less : Element → Element → Bool
less e f = is_lt (ordering_then (nat_cmp e.place f.place) (slice_cmp nat_cmp e.octets.now f.octets.now))

-- by places and octets
not_after_by : (m n : ℕ) (v w : List ℕ) → is_lt (ordering_then (nat_cmp n m) (slice_cmp nat_cmp w v)) ≡ false
    → (m < n) ⊎ ((m ≡ n) × IsNotAfter v w)
not_after_by m n v w h = elim (cases_lt m n) [
  | inl a ↦ inl a
  | inr a ↦ elim (cases_lt n m) [
    | inl b ↦ absurd (let z : true ≡ false = subst (λ o. is_lt (ordering_then o (slice_cmp nat_cmp w v)) ≡ false) (sym (nat_cmp_is n m Less b)) h in cc)
    | inr b ↦ (let e : n ≡ m = omega (arith, a, b) in
        inr (sym e, not_after v w (subst (λ o. is_lt (ordering_then o (slice_cmp nat_cmp w v)) ≡ false) (sym (nat_cmp_is n m Equal e)) h)))
  ]
]

up_to : (p q : Pair) (e f : Element) → e.place ≡ place (tag_of p.tree) → e.octets.now ≡ p.octets → f.place ≡ place (tag_of q.tree) → f.octets.now ≡ q.octets
    → less f e ≡ false → IsUpTo p q
up_to p q e f a b c d h =
    not_after_by (place (tag_of p.tree)) (place (tag_of q.tree)) p.octets q.octets
    (subst (λ n. is_lt (ordering_then (nat_cmp n (place (tag_of p.tree))) (slice_cmp nat_cmp q.octets p.octets)) ≡ false) c
    (subst (λ m. is_lt (ordering_then (nat_cmp f.place m) (slice_cmp nat_cmp q.octets p.octets)) ≡ false) a
    (subst (λ w. is_lt (ordering_then (nat_cmp f.place e.place) (slice_cmp nat_cmp w p.octets)) ≡ false) d
    (subst (λ v. is_lt (ordering_then (nat_cmp f.place e.place) (slice_cmp nat_cmp f.octets.now v)) ≡ false) b h))))

two_on : (k : ℕ) → suc k + 1 ≡ suc (k + 1)
two_on k = omega arith

ascend_of : (es : List Element) (ps : List Pair) → AreKeyed es ps → IsSortedBy less es → Ascend ps
ascend_of [] [] k h = tt
ascend_of [] (p ∷ ps) k h = absurd k
ascend_of (e ∷ es) [] k h = absurd k
ascend_of (e ∷ []) (p ∷ []) k h = (tt, tt)
ascend_of (e ∷ []) (p ∷ (q ∷ ps)) k h = absurd k.2
ascend_of (e ∷ (f ∷ es)) (p ∷ []) k h = absurd k.2
ascend_of (e ∷ (f ∷ es)) (p ∷ (q ∷ ps)) k h = (
  up_to p q e f k.0 k.1 k.2.0 k.2.1 (h 0 e (omega arith) (omega arith)),
  ascend_of (f ∷ es) (q ∷ ps) k.2 (λ i d a b.
      subst (λ n. less (get_or (e ∷ (f ∷ es)) n d) (get_or (f ∷ es) i d) ≡ false) (two_on i) (h (suc i) d (omega arith) (omega (arith, b)))),
)

-- ---- a rearrangement of what values are put in order by is one of the values

module _ {P K : Type 0} (f : P → K) where
  map_swap : (xs : List P) (i j : ℕ) → map f (swap xs i j) ≡ swap (map f xs) i j
  map_swap [] i j = refl
  map_swap (d ∷ ys) i j =
      map-set f (set (d ∷ ys) i (get_or (d ∷ ys) j d)) j (get_or (d ∷ ys) i d)
      ∙ ap (λ l. set l j (f (get_or (d ∷ ys) i d)))
      (map-set f (d ∷ ys) i (get_or (d ∷ ys) j d) ∙ ap (set (map f (d ∷ ys)) i) (sym (get_or-map f (d ∷ ys) j d)))
      ∙ ap (λ z. set (set (map f (d ∷ ys)) i (get_or (map f (d ∷ ys)) j (f d))) j z) (sym (get_or-map f (d ∷ ys) i d))

  map_swaps : (xs : List P) (ps : List (ℕ × ℕ)) → map f (apply_swaps xs ps) ≡ apply_swaps (map f xs) ps
  map_swaps xs [] = refl
  map_swaps xs (p ∷ ps) = map_swap (apply_swaps xs ps) p.0 p.1 ∙ ap (λ l. swap l p.0 p.1) (map_swaps xs ps)

  record Lifted (ps : List P) (ls : List K) : Type 0 where
    members : List P
    rearranged : IsPermutation ps members
    are : map f members ≡ ls

  lifted : (ps : List P) (ls : List K) → IsPermutation (map f ps) ls → Lifted ps ls
  lifted ps ls p = record {
    members = apply_swaps ps p.moves;
    rearranged = record { moves = p.moves; below = subst (λ n. SwapsInRange n p.moves) (length-map ps f) p.below; is = refl };
    are = map_swaps ps p.moves ∙ sym p.is;
  }

record Keyed : Type 0 where
  element : Element
  pair : Pair
  place_is : element.place ≡ place (tag_of pair.tree)
  octets_are : element.octets.now ≡ pair.octets

abbrev elements : List Keyed → List Element
elements ks = map (λ (k : Keyed). k.element) ks

abbrev pairs : List Keyed → List Pair
pairs ks = map (λ (k : Keyed). k.pair) ks

record Zipped (es : List Element) (ps : List Pair) : Type 0 where
  list : List Keyed
  first : elements list ≡ es
  second : pairs list ≡ ps

zipped : (es : List Element) (ps : List Pair) → AreKeyed es ps → Zipped es ps
zipped [] [] k = record { list = []; first = refl; second = refl }
zipped [] (p ∷ ps) k = absurd k
zipped (e ∷ es) [] k = absurd k
zipped (e ∷ es) (p ∷ ps) k =
    let z = zipped es ps k.2 in
    record {
      list = record { element = e; pair = p; place_is = k.0; octets_are = k.1 } ∷ z.list;
      first = ap (λ l. e ∷ l) z.first;
      second = ap (λ l. p ∷ l) z.second;
    }

keyed : (ks : List Keyed) → AreKeyed (elements ks) (pairs ks)
keyed [] = tt
keyed (k ∷ ks) = (k.place_is, k.octets_are, keyed ks)

-- elements in order are those of values in order
pub put_in_order : (es fs : List Element) (ps : List Pair) (w : List ℕ) → AreKeyed es ps → IsPermutation es fs → IsSortedBy less fs
    → ((qs : List Pair) → AreKeyed fs qs → w ≡ octets_of qs) → PutsInOrder ps w
put_in_order es fs ps w k p s j =
    let z = zipped es ps k in
    let l = lifted (λ (a : Keyed). a.element) z.list fs (subst (λ y. IsPermutation y fs) (sym z.first) p) in
    let q = subst (λ y. AreKeyed y (pairs l.members)) l.are (keyed l.members) in
    record {
      pairs = pairs l.members;
      rearranged =
          subst (λ y. IsPermutation y (pairs l.members)) z.second
          (IsPermutation-map (λ (a : Keyed). a.pair) z.list l.members l.rearranged);
      ascend = ascend_of fs (pairs l.members) q s;
      is = j (pairs l.members) q;
    }

-- ---- of the trees

each_tree : (ps : List Pair) → map (λ (p : Pair). p.tree) ps ≡ each (trees_of ps)
each_tree [] = refl
each_tree (p ∷ ps) = ap (λ l. p.tree ∷ l) (each_tree ps)

octets_size : (ps : List Pair) → length (octets_of ps) ≡ sum_by (λ (p : Pair). length p.octets) ps
octets_size [] = refl
octets_size (p ∷ ps) =
    length-append p.octets (octets_of ps) ∙ ap (λ n. length p.octets + n) (octets_size ps)
    ∙ sym (sum_by-cons (λ (q : Pair). length q.octets) p ps)

module _ (mode : Mode) where
  as_all : (ps : List Pair) → AreEncoded mode ps → AllByRecursion (λ (p : Pair). IsEncoding mode p.tree p.octets) ps
  as_all [] h = tt
  as_all (p ∷ ps) h = (h.0, as_all ps h.1)

  of_all : (ps : List Pair) → AllByRecursion (λ (p : Pair). IsEncoding mode p.tree p.octets) ps → AreEncoded mode ps
  of_all [] h = tt
  of_all (p ∷ ps) h = (h.0, of_all ps h.1)

  shuffled : (ps qs : List Pair) → IsPermutation ps qs → AreEncoded mode ps → AreEncoded mode qs
  shuffled ps qs p h =
      let P = λ (q : Pair). IsEncoding mode q.tree q.octets in
      of_all qs (recursion_from_All P qs (All-permutation P ps qs p (All-from_recursion P ps (as_all ps h))))

  module _ (canonical : mode ≢ Ber) where
    precedes : (p q : Pair) → IsEncoding mode p.tree p.octets → IsEncoding mode q.tree q.octets → IsUpTo p q → MayPrecede mode p.tree q.tree
    precedes p q h k (inl a) = inl a
    precedes p q h k (inr a) = inr (
      a.0,
      λ v w d e.
          subst (λ y. IsNotAfter v y) (one_spelling mode canonical q.tree q.octets w k e)
          (subst (λ y. IsNotAfter y q.octets) (one_spelling mode canonical p.tree p.octets v h d) a.1),
    )

    in_order_of : (ps : List Pair) → AreEncoded mode ps → Ascend ps → AreInOrder mode (each (trees_of ps))
    in_order_of [] h a = tt
    in_order_of (p ∷ []) h a = (tt, tt)
    in_order_of (p ∷ (q ∷ ps)) h a = (precedes p q h.0 h.1.0 a.0, in_order_of (q ∷ ps) h.1 a.1)

    -- values that are arranged are so as trees, are encoded, and have as many octets
    pub record TreesArranged (sorts : Bool) (ps qs : List Pair) : Type 0 where
      pub trees : AreArranged mode sorts (trees_of ps) (trees_of qs)
      pub encoded : AreEncoded mode qs
      pub size : length (octets_of qs) ≡ length (octets_of ps)

    pub trees_arranged : (sorts : Bool) (ps qs : List Pair) → AreArrangedPairs sorts ps qs → AreEncoded mode ps → TreesArranged sorts ps qs
    trees_arranged true ps qs a h =
        let e = shuffled ps qs a.0 h in
        record {
          trees = (
            subst (λ y. IsPermutation y (each (trees_of qs))) (each_tree ps)
                (subst (IsPermutation (map (λ (p : Pair). p.tree) ps)) (each_tree qs) (IsPermutation-map (λ (p : Pair). p.tree) ps qs a.0)),
            in_order_of qs e a.1,
          );
          encoded = e;
          size = octets_size qs ∙ sum_by-IsPermutation (λ (p : Pair). length p.octets) ps qs a.0 ∙ sym (octets_size ps);
        }
    trees_arranged false ps qs a h = record {
      trees = ap trees_of a;
      encoded = subst (AreEncoded mode) (sym a) h;
      size = ap (λ r. length (octets_of r)) a;
    }

-- ---- where they were copied to

short_ascends : (ps : List Pair) → length ps < 2 → Ascend ps
short_ascends [] h = tt
short_ascends (p ∷ []) h = (tt, tt)
short_ascends (p ∷ (q ∷ ps)) h = absurd (omega arith)

marks_length : (cs : List Copied) (ps : List Pair) → AreMarks cs ps → length ps ≡ length cs
marks_length [] [] h = refl
marks_length [] (p ∷ ps) h = absurd h
marks_length (c ∷ cs) [] h = absurd h
marks_length (c ∷ cs) (p ∷ ps) h = ap suc (marks_length cs ps h.2)

-- a slice up to the end
pub whole_rest : {X : Type 0} (n : ℕ) (xs : List X) → take (length xs - n) (drop n xs) ≡ drop n xs
whole_rest n xs = take_all (length xs - n) (drop n xs) (omega (arith, length-drop n xs))

pub stay : (n : ℕ) (v : List ℕ) (ps : List Pair) → drop n v ≡ octets_of ps → Arranged false ps (take n v) v
stay n v ps e = record { pairs = ps; arranged = refl; is = sym (take-append-drop n v) ∙ ap (λ z. take n v ++ z) e }

pub short_stay : (n first : ℕ) (cs : List Copied) (v : List ℕ) (ps : List Pair) → AreMarks (drop first cs) ps → length cs - first < 2
    → drop n v ≡ octets_of ps → Arranged true ps (take n v) v
short_stay n first cs v ps m h e = record {
  pairs = ps;
  arranged = (IsPermutation-refl ps, short_ascends ps (omega (arith, marks_length (drop first cs) ps m, length-drop first cs)));
  is = sym (take-append-drop n v) ∙ ap (λ z. take n v ++ z) e;
}

pub put_back : (v w u : List ℕ) (ps : List Pair) → PutsInOrder ps w → u ≡ v ++ w → Arranged true ps v u
put_back v w u ps p e = record { pairs = p.pairs; arranged = (p.rearranged, p.ascend); is = e ∙ ap (λ z. v ++ z) p.is }
