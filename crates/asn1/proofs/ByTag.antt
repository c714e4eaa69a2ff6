-- Values in ascending order of their tags.
use Rattle.std.proofs.Common.{◌≡◌, ◌≢◌, ℕ, ◌+◌, ◌<◌, ◌≤◌, List, [], ◌∷◌, ◌++◌, map, get_or, drop, length, ◌↔◌, refl, ap, sym, ◌∙◌, subst, inl, inr, arith}
use Rattle.std.specs.Prelude.{◌⊎◌, Option, Some, IsPermutation, suc}
use Rattle.std.specs.List.{AllByRecursion}
use Rattle.std.proofs.lemmas.Bool.{cases_lt}
use Rattle.std.proofs.lemmas.List.{length-drop, drop_more}
use Rattle.std.proofs.lemmas.List.Elements.{All-from_recursion, recursion_from_All}
use Rattle.std.proofs.lemmas.List.Sorted.{All-permutation, IsPermutation-refl, IsPermutation-map, IsPermutation-sym, IsPermutation-trans}
use Rattle.bcder.specs.declared.mode.Mode.{Mode}
use Rattle.bcder.specs.declared.mode.Mode.TheVariants.{Ber, Cer, Der}
use Rattle.bcder.specs.x690.Identifier.{Tag}
use Rattle.bcder.specs.x690.Tree.{Tree, Trees, no_trees, ◌∷ₜ◌}
use Rattle.bcder.specs.x690.Encoding.{IsEncoding, AreEncodings}
use Rattle.bcder.specs.calls.Captured.{Kept}
use Rattle.asn1.specs.Types.{IsMember, AreList}
use Rattle.asn1.specs.Anything.{Every, KeepsOne, KeepsValue, kept_value}
use Rattle.asn1.specs.Sorting.{Decided, AllOf, BeforeFirst, Ascend, one_ascending}
use Rattle.asn1.specs.Rearranging.{Lifted, lifted, same_members}
use Rattle.asn1.specs.SetsWritten.{flat, octets_of_each}
use Rattle.asn1.specs.Sets.{Rise, IsUpTo, each, tag_place, place_in, place_of_value, kept_place, kept_place_in, AreOrdered, AreKeptInOrder}
use Rattle.asn1.proofs.Members.{no_cons, cons_first, cons_rest}
use Rattle.asn1.proofs.Kept.{value_kept}

every_shuffled : {X : Type 0} (P : X → Type 0) (xs ys : List X) → IsPermutation xs ys → AllByRecursion P xs → AllByRecursion P ys
every_shuffled P xs ys p h = recursion_from_All P ys (All-permutation P xs ys p (All-from_recursion P xs h))

two_on : (k : ℕ) → suc k + 1 ≡ suc (k + 1)
two_on k = omega arith

-- ---- lists that rise

module _ {E : Type 0} where
  abbrev IsIn : List E → E → Type 0
  IsIn [] e = ⊥
  IsIn (d ∷ ds) e = (e ≡ d) ⊎ IsIn ds e

  all_in : (es fs : List E) → ((e : E) → IsIn fs e → IsIn es e) → AllByRecursion (IsIn es) fs
  all_in es [] h = tt
  all_in es (f ∷ fs) h = (h f (inl refl), all_in es fs (λ e k. h e (inr k)))

  as_all : (P : E → Type 0) (es : List E) → AllByRecursion P es → AllOf P es
  as_all P [] h = tt
  as_all P (e ∷ es) h = (h.0, as_all P es h.1)

module _ {E : Type 0} (f : E → ℕ) where
  up_to : (d e : E) → Decided (IsUpTo f d e)
  up_to d e = elim (cases_lt (f e) (f d)) [ inl h ↦ inr (λ k. omega (arith, h, k)) | inr h ↦ inl (omega (arith, h)) ]

  -- what is in a list that rises is above what stands below it
  above : (d : E) (es : List E) → BeforeFirst (λ a b. f a < f b) d es → Rise f es → (e : E) → IsIn es e → f d < f e
  above d [] b r e h = absurd h
  above d (c ∷ cs) b r e (inl q) = (let z = ap f q in omega (arith, b, z))
  above d (c ∷ cs) b r e (inr h) = (let k = above c cs r.0 r.1 e h in omega (arith, b, k))

  -- and is told apart by its number
  one_of_them : (es : List E) → Rise f es → (d e : E) → IsIn es d → IsIn es e → f d ≡ f e → d ≡ e
  one_of_them [] r d e h k q = absurd h
  one_of_them (c ∷ cs) r d e (inl h) (inl k) q = h ∙ sym k
  one_of_them (c ∷ cs) r d e (inl h) (inr k) q = absurd (let z = above c cs r.0 r.1 e k in let y = ap f h in omega (arith, z, y, q))
  one_of_them (c ∷ cs) r d e (inr h) (inl k) q = absurd (let z = above c cs r.0 r.1 d h in let y = ap f k in omega (arith, z, y, q))
  one_of_them (c ∷ cs) r d e (inr h) (inr k) q = one_of_them cs r.1 d e h k q

  rises_short : (es : List E) → length es ≤ 1 → Rise f es
  rises_short [] h = tt
  rises_short (e ∷ []) h = (tt, tt)
  rises_short (e ∷ (d ∷ ds)) h = absurd (omega (arith, h))

  -- where one is left at most, nothing falls
  pub last_rises : (es : List E) (n : ℕ) → length es ≤ n + 1 → Rise f (drop n es)
  last_rises es n h = (let l = length-drop n es in rises_short (drop n es) (omega (arith, h, l)))

  -- a list rises from there on exactly if it does from the next member on, which is above that one
  pub rises_further : (es : List E) (i j : ℕ) (d e : E) → j ≡ i + 1 → j < length es → d ≡ get_or es i d → e ≡ get_or es j e → f d < f e
      → Rise f (drop i es) ↔ Rise f (drop j es)
  rises_further es i j d e q l p r h =
      let a = drop_more es i d (omega (arith, l, q)) ∙ ap (λ z. z ∷ drop (i + 1) es) (sym p) ∙ ap (λ n. d ∷ drop n es) (sym q) in
      let b = drop_more es j e l ∙ ap (λ z. z ∷ drop (j + 1) es) (sym r) in
      let c : drop i es ≡ d ∷ (e ∷ drop (j + 1) es) = a ∙ ap (λ z. d ∷ z) b in
      (λ k. subst (Rise f) (sym b) (subst (Rise f) c k).1, λ k. subst (Rise f) (sym c) (h, subst (Rise f) b k))

  pub climbs : (es : List E) → Rise f es → Ascend (IsUpTo f) es
  climbs [] r = tt
  climbs (e ∷ []) r = (tt, tt)
  climbs (e ∷ (d ∷ ds)) r = (let h = r.0 in omega (arith, h), climbs (d ∷ ds) r.1)

  -- a list that rises is the only one of its members that doesn't fall
  pub one_rising : (es fs : List E) → Rise f es → Ascend (IsUpTo f) fs → IsPermutation es fs → es ≡ fs
  one_rising es fs r a p =
      let i = all_in es es (λ e h. h) in
      one_ascending (IsUpTo f) up_to (λ v. omega arith) (λ u v w h k. omega (arith, h, k)) (IsIn es)
      (λ v w h k x y. one_of_them es r v w h k (omega (arith, x, y))) es fs (as_all (IsIn es) es i)
      (as_all (IsIn es) fs (every_shuffled (IsIn es) es fs p i)) (climbs es r) a (same_members es fs p)

module _ {E : Type 0} (R : E → E → Type 0) where
  -- each next to the one before it
  pub adjacent : (es : List E) → ((k : ℕ) (d : E) → k + 1 < length es → R (get_or es k d) (get_or es (k + 1) d)) → Ascend R es
  adjacent [] h = tt
  adjacent (e ∷ []) h = (tt, tt)
  adjacent (e ∷ (d ∷ ds)) h = (
    h 0 e (omega arith),
    adjacent (d ∷ ds) (λ k c l. subst (λ n. R (get_or (d ∷ ds) k c) (get_or (e ∷ (d ∷ ds)) n c)) (two_on k) (h (suc k) c (omega (arith, l)))),
  )

-- ---- values in a list

trees_of : List Tree → Trees
trees_of [] = no_trees
trees_of (t ∷ ts) = t ∷ₜ trees_of ts

each_back : (ts : List Tree) → each (trees_of ts) ≡ ts
unfolding trees_of
each_back [] = refl
each_back (t ∷ ts) = ap (λ z. t ∷ z) (each_back ts)

trees_back : (ts : Trees) → trees_of (each ts) ≡ ts
unfolding trees_of
trees_back no_trees = refl
trees_back (t ∷ₜ ts) = ap (λ z. t ∷ₜ z) (trees_back ts)

-- values that rise are the only order of them that does
pub one_rise : (f : Tree → ℕ) (us vs : Trees) → Rise f (each us) → Rise f (each vs) → IsPermutation (each us) (each vs) → us ≡ vs
one_rise f us vs r s p = sym (trees_back us) ∙ ap trees_of (one_rising f (each us) (each vs) r (climbs f (each vs) s) p) ∙ trees_back vs

-- values have one order
pub one_order : (mode : Mode) (Place : ℕ → ℕ) (ts us vs : Trees) → AreOrdered mode Place ts us → AreOrdered mode Place ts vs → us ≡ vs
one_order mode Place ts us vs o p =
    one_rise (place_in Place) us vs o.rise p.rise
    (IsPermutation-trans (each us) (each ts) (each vs) (IsPermutation-sym (each ts) (each us) o.rearranged) p.rearranged)

-- ---- values that have encodings

HasEncoding : Mode → Tree → Type 0
HasEncoding mode t = (w : List ℕ) × IsEncoding mode t w

each_encoded : (mode : Mode) (ts : Trees) (w : List ℕ) → AreEncodings mode ts w → AllByRecursion (HasEncoding mode) (each ts)
unfolding HasEncoding
each_encoded mode no_trees w e = tt
each_encoded mode (t ∷ₜ ts) w (v, x, e, es, q) = ((v, e), each_encoded mode ts x es)

all_encoded : (mode : Mode) (ts : Trees) → AllByRecursion (HasEncoding mode) (each ts) → (w : List ℕ) × AreEncodings mode ts w
unfolding HasEncoding
all_encoded mode no_trees h = ([], refl)
all_encoded mode (t ∷ₜ ts) h = (let r = all_encoded mode ts h.1 in (h.0.0 ++ r.0, (h.0.0, r.0, h.0.1, r.1, refl)))

-- in another order they have one, too
pub rearranged_encode : (mode : Mode) (ts us : Trees) (w : List ℕ) → IsPermutation (each ts) (each us) → AreEncodings mode ts w
    → (v : List ℕ) × AreEncodings mode us v
rearranged_encode mode ts us w p e =
    all_encoded mode us (every_shuffled (HasEncoding mode) (each ts) (each us) p (each_encoded mode ts w e))

-- ---- values that are kept

module _ (mode : Mode) where
  abbrev pub AreKept : Trees → List Kept → Type 0
  AreKept no_trees [] = Unit {0}
  AreKept no_trees (k ∷ ks) = ⊥
  AreKept (t ∷ₜ ts) [] = ⊥
  AreKept (t ∷ₜ ts) (k ∷ ks) = KeepsValue mode t k × AreKept ts ks

  pub as_kept : (asked : Tag) (ts : Trees) (ks : List Kept) → AreList (Every asked) (KeepsValue mode) ts ks no_trees → AreKept ts ks
  as_kept asked no_trees [] h = tt
  as_kept asked (t ∷ₜ ts) [] h = no_cons t ts (sym h.1)
  as_kept asked no_trees (k ∷ ks) h = (let m : IsMember (Every asked) (KeepsValue mode) no_trees k h.0 = h.1 in no_cons m.tree h.0 (sym m.are))
  as_kept asked (t ∷ₜ ts) (k ∷ ks) h =
      let m : IsMember (Every asked) (KeepsValue mode) (t ∷ₜ ts) k h.0 = h.1 in (
        subst (λ z. KeepsValue mode z k) (sym (cons_first t m.tree ts h.0 m.are)) m.means,
        as_kept asked ts ks (subst (λ z. AreList (Every asked) (KeepsValue mode) z ks no_trees) (sym (cons_rest t m.tree ts h.0 m.are)) h.2),
      )

  is_kept : (t : Tree) (k : Kept) → KeepsValue mode t k → kept_value k ≡ Some t
  is_kept t k h = value_kept k t (subst (λ m. IsEncoding m t k.octets) (sym h.rules) h.encodes)

  listed : (ts : Trees) (ks : List Kept) → AreKept ts ks → map kept_value ks ≡ map Some (each ts)
  listed no_trees [] h = refl
  listed no_trees (k ∷ ks) h = absurd h
  listed (t ∷ₜ ts) [] h = absurd h
  listed (t ∷ₜ ts) (k ∷ ks) h = ap (λ z. z ∷ map kept_value ks) (is_kept t k h.0) ∙ ap (λ z. Some t ∷ z) (listed ts ks h.1)

  all_keep : (ts : Trees) (ks : List Kept) → AreKept ts ks → AllByRecursion (KeepsOne mode) ks
  all_keep no_trees [] h = tt
  all_keep no_trees (k ∷ ks) h = absurd h
  all_keep (t ∷ₜ ts) [] h = absurd h
  all_keep (t ∷ₜ ts) (k ∷ ks) h =
      let r = h.0.rules in
      let e = h.0.encodes in
      let o : KeepsOne mode k = record { rules = r; one = record { tree = t; encodes = subst (λ m. IsEncoding m t k.octets) (sym r) e } } in
      (o, all_keep ts ks h.1)

  keeps_this : (t : Tree) (k : Kept) → KeepsOne mode k → kept_value k ≡ Some t → KeepsValue mode t k
  keeps_this t k h q =
      let e = h.one.encodes in
      let s : ◌≡◌ {A = Option Tree} (Some h.one.tree) (Some t) = sym (value_kept k h.one.tree e) ∙ q in
      let i : h.one.tree ≡ t = cc in
      record { rules = h.rules; encodes = subst (λ z. IsEncoding mode z k.octets) i (subst (λ m. IsEncoding m h.one.tree k.octets) h.rules e) }

  from_list : (ks : List Kept) (us : List Tree) → AllByRecursion (KeepsOne mode) ks → map kept_value ks ≡ map Some us → AreKept (trees_of us) ks
  unfolding trees_of
  from_list [] [] h q = tt
  from_list [] (u ∷ us) h q = (let z : [] ≡ (Some u ∷ map Some us) = q in cc)
  from_list (k ∷ ks) [] h q = (let z : (kept_value k ∷ map kept_value ks) ≡ [] = q in cc)
  from_list (k ∷ ks) (u ∷ us) h q =
      let z : (kept_value k ∷ map kept_value ks) ≡ (Some u ∷ map Some us) = q in
      let x : kept_value k ≡ Some u = cc in
      let y : map kept_value ks ≡ map Some us = cc in
      (keeps_this u k h.0 x, from_list ks us h.1 y)

  pub kept_encode : (ts : Trees) (ks : List Kept) → AreKept ts ks → AreEncodings mode ts (flat (octets_of_each ks))
  kept_encode no_trees [] h = refl
  kept_encode no_trees (k ∷ ks) h = absurd h
  kept_encode (t ∷ₜ ts) [] h = absurd h
  kept_encode (t ∷ₜ ts) (k ∷ ks) h = (k.octets, flat (octets_of_each ks), h.0.encodes, kept_encode ts ks h.1, refl)

  -- the places of their tags
  same_place : (t : Tree) (k : Kept) → KeepsValue mode t k → kept_place k ≡ tag_place t
  same_place t k h = ap place_of_value (is_kept t k h)

  rise_back : (Place : ℕ → ℕ) (ts : Trees) (ks : List Kept) → AreKept ts ks → Rise (kept_place_in Place) ks → Rise (place_in Place) (each ts)
  rise_back Place no_trees [] h r = tt
  rise_back Place no_trees (k ∷ ks) h r = absurd h
  rise_back Place (t ∷ₜ ts) [] h r = absurd h
  rise_back Place (t ∷ₜ no_trees) (k ∷ []) h r = (tt, tt)
  rise_back Place (t ∷ₜ no_trees) (k ∷ (l ∷ ls)) h r = absurd h.1
  rise_back Place (t ∷ₜ (u ∷ₜ us)) (k ∷ []) h r = absurd h.1
  rise_back Place (t ∷ₜ (u ∷ₜ us)) (k ∷ (l ∷ ls)) h r =
      let a = ap Place (same_place t k h.0) in
      let b = ap Place (same_place u l h.1.0) in
      let c = r.0 in
      (omega (arith, a, b, c), rise_back Place (u ∷ₜ us) (l ∷ ls) h.1 r.1)

  rise_on : (Place : ℕ → ℕ) (ts : Trees) (ks : List Kept) → AreKept ts ks → Rise (place_in Place) (each ts) → Rise (kept_place_in Place) ks
  rise_on Place no_trees [] h r = tt
  rise_on Place no_trees (k ∷ ks) h r = absurd h
  rise_on Place (t ∷ₜ ts) [] h r = absurd h
  rise_on Place (t ∷ₜ no_trees) (k ∷ []) h r = (tt, tt)
  rise_on Place (t ∷ₜ no_trees) (k ∷ (l ∷ ls)) h r = absurd h.1
  rise_on Place (t ∷ₜ (u ∷ₜ us)) (k ∷ []) h r = absurd h.1
  rise_on Place (t ∷ₜ (u ∷ₜ us)) (k ∷ (l ∷ ls)) h r =
      let a = ap Place (same_place t k h.0) in
      let b = ap Place (same_place u l h.1.0) in
      let c = r.0 in
      (omega (arith, a, b, c), rise_on Place (u ∷ₜ us) (l ∷ ls) h.1 r.1)

  -- kept values ascend by their own tags if the values do
  pub tags_rise : (ts : Trees) (ks : List Kept) → AreKept ts ks → Rise tag_place (each ts) → Rise kept_place ks
  tags_rise ts ks h r = rise_on (λ n. n) ts ks h r

  same_trees : (ts us : Trees) (ks : List Kept) → AreKept ts ks → AreKept us ks → ts ≡ us
  same_trees no_trees no_trees [] h g = refl
  same_trees no_trees (u ∷ₜ us) [] h g = absurd g
  same_trees (t ∷ₜ ts) us [] h g = absurd h
  same_trees no_trees us (k ∷ ks) h g = absurd h
  same_trees (t ∷ₜ ts) no_trees (k ∷ ks) h g = absurd g
  same_trees (t ∷ₜ ts) (u ∷ₜ us) (k ∷ ks) h g =
      let s : ◌≡◌ {A = Option Tree} (Some t) (Some u) = sym (is_kept t k h.0) ∙ is_kept u k g.0 in
      let i : t ≡ u = cc in
      ap (λ z. z ∷ₜ ts) i ∙ ap (λ z. u ∷ₜ z) (same_trees ts us ks h.1 g.1)

  -- ---- kept values in order are the values in order

  pub record OrderedTrees (Place : ℕ → ℕ) (ts : Trees) (ls : List Kept) : Type 0 where
    pub trees : Trees
    pub order : AreOrdered mode Place ts trees
    pub kept : AreKept trees ls

  pub ordered_trees : (Place : ℕ → ℕ) (ts : Trees) (ks ls : List Kept) → AreKept ts ks → (mode ≡ Der → Rise kept_place ks)
      → AreKeptInOrder mode Place ks ls → OrderedTrees Place ts ls
  ordered_trees Place ts ks ls h d o =
      let p = subst (λ z. IsPermutation z (map kept_value ls)) (listed ts ks h) (IsPermutation-map kept_value ks ls o.rearranged) in
      let l : Lifted Some (each ts) (map kept_value ls) = lifted Some (each ts) (map kept_value ls) p in
      let k = from_list ls l.members (every_shuffled (KeepsOne mode) ks ls o.rearranged (all_keep ts ks h)) (sym l.are) in
      record {
        trees = trees_of l.members;
        order = record {
          rearranged = subst (IsPermutation (each ts)) (sym (each_back l.members)) l.rearranged;
          rise = rise_back Place (trees_of l.members) ls k o.rise;
          in_place = λ q. same_trees (trees_of l.members) ts ls k (subst (AreKept ts) (sym (o.in_place q)) h);
          by_tag = λ q. rise_back (λ n. n) ts ks h (d q);
        };
        kept = k;
      }

  cer_or_not : (mode ≡ Cer) ⊎ (mode ≢ Cer)
  cer_or_not = told mode
    where
      told : (m : Mode) → (m ≡ Cer) ⊎ (m ≢ Cer)
      told Ber = inr (λ e. cc)
      told Cer = inl refl
      told Der = inr (λ e. cc)

  pub ordered_kept : (Place : ℕ → ℕ) (ts us : Trees) (ks : List Kept) → AreKept ts ks → AreOrdered mode Place ts us
      → (ls : List Kept) × AreKeptInOrder mode Place ks ls
  ordered_kept Place ts us ks h o = elim cer_or_not [
    | inr n ↦ (let p = subst (λ z. IsPermutation z (map Some (each us))) (sym (listed ts ks h)) (IsPermutation-map Some (each ts) (each us) o.rearranged) in
        let l : Lifted kept_value ks (map Some (each us)) = lifted kept_value ks (map Some (each us)) p in
        let k = from_list l.members (each us) (every_shuffled (KeepsOne mode) ks l.members l.rearranged (all_keep ts ks h)) l.are in (
          l.members,
          record {
            rearranged = l.rearranged;
            rise = rise_on Place (trees_of (each us)) l.members k (subst (Rise (place_in Place)) (sym (each_back (each us))) o.rise);
            in_place = λ q. absurd (n q);
          },
        ))
    | inl q ↦ (
      ks,
      record {
        rearranged = IsPermutation-refl ks;
        rise = rise_on Place ts ks h (subst (λ z. Rise (place_in Place) (each z)) (o.in_place q) o.rise);
        in_place = λ e. refl;
      },
    )
  ]

  -- if kept values can be put in the order, then they are in it where they don't fall
  pub rise_if_any : (Place : ℕ → ℕ) (xs ys ks : List Kept) → IsPermutation xs ys → (mode ≡ Cer → ys ≡ xs)
      → (mode ≢ Cer → Ascend (IsUpTo (kept_place_in Place)) ys) → AreKeptInOrder mode Place xs ks → Rise (kept_place_in Place) ys
  rise_if_any Place xs ys ks p same up o = elim cer_or_not [
    | inr n ↦ subst (Rise (kept_place_in Place))
        (one_rising (kept_place_in Place) ks ys o.rise (up n) (IsPermutation-trans ks xs ys (IsPermutation-sym xs ks o.rearranged) p)) o.rise
    | inl q ↦ subst (Rise (kept_place_in Place)) (o.in_place q ∙ sym (same q)) o.rise
  ]
