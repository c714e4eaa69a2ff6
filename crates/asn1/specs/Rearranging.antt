-- Lists whose members were rearranged.
use Rattle.std.proofs.Common.{◌≡◌, ℕ, ◌+◌, List, [], ◌∷◌, map, set, get_or, sum_by, refl, ap, sym, ◌∙◌, subst}
use Rattle.std.specs.Prelude.{IsPermutation}
use Rattle.std.specs.List.{swap}
use Rattle.std.specs.List.Sorted.{apply_swaps, SwapsInRange}
use Rattle.std.proofs.lemmas.List.{map-set, length-map}
use Rattle.std.proofs.Math.ListN.{get_or-map}
use Rattle.std.proofs.lemmas.List.Sums.{sum_by-cons}
use Rattle.std.proofs.lemmas.List.Sorted.{IsPermutation-map, sum_by-IsPermutation}
use Rattle.asn1.specs.Sorting.{total, Same}

-- rearranged lists have the same members
module _ {E : Type 0} where
  total_is : (f : E → ℕ) (es : List E) → total f es ≡ sum_by f es
  total_is f [] = refl
  total_is f (e ∷ es) = ap (λ n. f e + n) (total_is f es) ∙ sym (sum_by-cons f e es)

  pub same_members : (es fs : List E) → IsPermutation es fs → Same es fs
  same_members es fs p = record { totals = λ f. total_is f es ∙ sym (sum_by-IsPermutation f es fs p) ∙ sym (total_is f fs) }

-- a rearrangement of what members are told apart by is that of the members
module _ {P K : Type 0} (f : P → K) where
  map_swap : (xs : List P) (i j : ℕ) → map f (swap xs i j) ≡ swap (map f xs) i j
  map_swap [] i j = refl
  map_swap (d ∷ ys) i j =
      map-set f (set (d ∷ ys) i (get_or (d ∷ ys) j d)) j (get_or (d ∷ ys) i d)
      ∙ ap (λ l. set l j (f (get_or (d ∷ ys) i d)))
      (map-set f (d ∷ ys) i (get_or (d ∷ ys) j d) ∙ ap (set (map f (d ∷ ys)) i) (sym (get_or-map f (d ∷ ys) j d)))
      ∙ ap (set (set (map f (d ∷ ys)) i (get_or (map f (d ∷ ys)) j (f d))) j) (sym (get_or-map f (d ∷ ys) i d))

  map_swaps : (xs : List P) (ps : List (ℕ × ℕ)) → map f (apply_swaps xs ps) ≡ apply_swaps (map f xs) ps
  map_swaps xs [] = refl
  map_swaps xs (p ∷ ps) = map_swap (apply_swaps xs ps) p.0 p.1 ∙ ap (λ l. swap l p.0 p.1) (map_swaps xs ps)

  pub record Lifted (ps : List P) (ls : List K) : Type 0 where
    pub members : List P
    pub rearranged : IsPermutation ps members
    pub are : map f members ≡ ls

  pub lifted : (ps : List P) (ls : List K) → IsPermutation (map f ps) ls → Lifted ps ls
  lifted ps ls p = record {
    members = apply_swaps ps p.moves;
    rearranged = record { moves = p.moves; below = subst (λ n. SwapsInRange n p.moves) (length-map ps f) p.below; is = refl };
    are = map_swaps ps p.moves ∙ sym p.is;
  }

  -- members that are told apart by what f is are told apart by what g is
  pub one_by_one : {E : Type 0} (g : P → E) → ((p q : P) → f p ≡ f q → g p ≡ g q) → (ps qs : List P) → map f ps ≡ map f qs
      → map g ps ≡ map g qs
  one_by_one g once [] [] e = refl
  one_by_one g once [] (q ∷ qs) e = absurd (let z : [] ≡ (f q ∷ map f qs) = e in cc)
  one_by_one g once (p ∷ ps) [] e = absurd (let z : (f p ∷ map f ps) ≡ [] = e in cc)
  one_by_one g once (p ∷ ps) (q ∷ qs) e =
      let z : (f p ∷ map f ps) ≡ (f q ∷ map f qs) = e in
      let x : f p ≡ f q = cc in
      let y : map f ps ≡ map f qs = cc in
      ap (λ a. a ∷ map g ps) (once p q x) ∙ ap (λ a. g q ∷ a) (one_by_one g once ps qs y)

  -- and so the members by g are the same if those by f are rearranged
  pub same_by : {E : Type 0} (g : P → E) → ((p q : P) → f p ≡ f q → g p ≡ g q) → (ps qs : List P) → IsPermutation (map f ps) (map f qs)
      → Same (map g ps) (map g qs)
  same_by g once ps qs p =
      let l = lifted ps (map f qs) p in
      let r = same_members (map g ps) (map g l.members) (IsPermutation-map g ps l.members l.rearranged) in
      subst (Same (map g ps)) (one_by_one g once l.members qs l.are) r
