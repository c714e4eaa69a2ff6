-- What values are put in order by, one after the other.
use Rattle.std.proofs.Common.{◌≡◌, ℕ, ◌+◌, ◌<◌, ◌≤◌, suc, List, [], ◌∷◌, ◌++◌, length}
use Rattle.std.proofs.Common.{take, drop, get_or, refl, ap, sym, ◌∙◌, subst, append_assoc, add-one, arith}
use Rattle.std.specs.Prelude.{sum_by}
use Rattle.std.proofs.lemmas.List.{append-nil, length-drop}
use Rattle.std.proofs.lemmas.List.Sums.{sum_by-cons}
use Rattle.std.proofs.Math.Seq.{drop-append_seam, take-append_seam, drop-cons}
use Rattle.bcder.specs.calls.Valued.{tag_of}
use Rattle.encodings.specs.declared.sets.Copied.{Copied}
use Rattle.encodings.specs.declared.sets.Element.{Element}
use Rattle.encodings.specs.Sets.{place}
use Rattle.encodings.specs.Sorting.{Pair, octets_of, AreMarks, AreKeyed}

-- of values that were copied, the first are keyed, and the others are left
pub record Split (cs : List Copied) (octets : List ℕ) (es : List Element) (left : List Copied) (rest : List ℕ) (ps : List Pair) : Type 0 where
  pub first : List Pair
  pub others : List Pair
  pub are : ps ≡ first ++ others
  pub keyed : AreKeyed es first
  pub marks : AreMarks left others
  pub octets_are : rest ≡ octets_of others

abbrev pub Splits : List Copied → List ℕ → List Element → List Copied → List ℕ → Type 0
Splits cs octets es left rest = (ps : List Pair) → AreMarks cs ps → octets ≡ octets_of ps → Split cs octets es left rest ps

pub none_split : (cs : List Copied) (octets : List ℕ) → Splits cs octets [] cs octets
none_split cs octets ps h e = record { first = []; others = ps; are = refl; keyed = tt; marks = h; octets_are = e }

keyed_more : (es : List Element) (ps : List Pair) (e : Element) (p : Pair) → AreKeyed es ps → e.place ≡ place (tag_of p.tree) → e.octets.now ≡ p.octets
    → AreKeyed (es ++ e ∷ []) (ps ++ p ∷ [])
keyed_more [] [] e p h a b = (a, b, tt)
keyed_more [] (q ∷ ps) e p h a b = absurd h
keyed_more (d ∷ es) [] e p h a b = absurd h
keyed_more (d ∷ es) (q ∷ ps) e p h a b = (h.0, h.1, keyed_more es ps e p h.2 a b)

pub one_split : (cs : List Copied) (octets : List ℕ) (es fs : List Element) (c : Copied) (left : List Copied) (rest : List ℕ) (e : Element)
    → Splits cs octets es (c ∷ left) rest → e.place ≡ c.place → e.octets.now ≡ take c.size rest → fs ≡ es ++ e ∷ []
    → Splits cs octets fs left (drop c.size rest)
one_split cs octets es fs c left rest e s a b k ps h q = go (s ps h q)
  where
    with_others : (first others : List Pair) → ps ≡ first ++ others → AreKeyed es first → AreMarks (c ∷ left) others → rest ≡ octets_of others
        → Split cs octets fs left (drop c.size rest) ps
    with_others first [] are keyed marks is = absurd marks
    with_others first (p ∷ others) are keyed marks is = record {
      first = first ++ p ∷ [];
      others = others;
      are = are ∙ sym (append_assoc first (p ∷ []) others);
      keyed =
          subst (λ z. AreKeyed z (first ++ p ∷ [])) (sym k)
          (keyed_more es first e p keyed (a ∙ marks.0)
          (b ∙ ap (λ n. take n rest) marks.1 ∙ ap (λ z. take (length p.octets) z) is ∙ take-append_seam p.octets (octets_of others)));
      marks = marks.2;
      octets_are = ap (λ n. drop n rest) marks.1 ∙ ap (λ z. drop (length p.octets) z) is ∙ drop-append_seam p.octets (octets_of others);
    }

    go : Split cs octets es (c ∷ left) rest ps → Split cs octets fs left (drop c.size rest) ps
    go r = with_others r.first r.others r.are r.keyed r.marks r.octets_are

pub all_split : (cs : List Copied) (octets : List ℕ) (es : List Element) (left : List Copied) (rest : List ℕ) → Splits cs octets es left rest
    → length left ≡ 0 → (ps : List Pair) → AreMarks cs ps → octets ≡ octets_of ps → AreKeyed es ps
all_split cs octets es left rest s n ps h q = go left n (s ps h q)
  where
    none : (first others : List Pair) → ps ≡ first ++ others → AreKeyed es first → AreMarks [] others → AreKeyed es ps
    none first [] are keyed marks = subst (AreKeyed es) (sym (are ∙ append-nil first)) keyed
    none first (p ∷ others) are keyed marks = absurd marks

    go : (left : List Copied) → length left ≡ 0 → Split cs octets es left rest ps → AreKeyed es ps
    go [] k r = none r.first r.others r.are r.keyed r.marks
    go (c ∷ left) k r = absurd (omega arith)

-- the sizes that are left
pub sizes_left : (c : Copied) (left : List Copied) (rest : List ℕ) → sum_by (λ (d : Copied). d.size) (c ∷ left) ≡ length rest
    → (c.size ≤ length rest) × (sum_by (λ (d : Copied). d.size) left ≡ length (drop c.size rest))
sizes_left c left rest e =
    let k = sum_by-cons (λ (d : Copied). d.size) c left in
    (omega (arith, k, e), omega (arith, k, e, length-drop c.size rest))

-- ---- joining them

pub record Joined (es left : List Element) (w : List ℕ) (ps : List Pair) : Type 0 where
  pub first : List Pair
  pub others : List Pair
  pub are : ps ≡ first ++ others
  pub keyed : AreKeyed left others
  pub is : w ≡ octets_of first

abbrev pub Joins : List Element → List Element → List ℕ → Type 0
Joins es left w = (ps : List Pair) → AreKeyed es ps → Joined es left w ps

pub none_joined : (es : List Element) → Joins es es []
none_joined es ps h = record { first = []; others = ps; are = refl; keyed = h; is = refl }

octets_more : (ps : List Pair) (p : Pair) → octets_of (ps ++ p ∷ []) ≡ octets_of ps ++ p.octets
octets_more [] p = append-nil p.octets
octets_more (q ∷ ps) p = ap (λ w. q.octets ++ w) (octets_more ps p) ∙ sym (append_assoc q.octets (octets_of ps) p.octets)

pub one_joined : (es : List Element) (e : Element) (left : List Element) (v w : List ℕ) → Joins es (e ∷ left) v → w ≡ v ++ e.octets.now → Joins es left w
one_joined es e left v w s k ps h = go (s ps h)
  where
    with_others : (first others : List Pair) → ps ≡ first ++ others → AreKeyed (e ∷ left) others → v ≡ octets_of first → Joined es left w ps
    with_others first [] are keyed is = absurd keyed
    with_others first (p ∷ others) are keyed is = record {
      first = first ++ p ∷ [];
      others = others;
      are = are ∙ sym (append_assoc first (p ∷ []) others);
      keyed = keyed.2;
      is = k ∙ ap (λ z. z ++ e.octets.now) is ∙ ap (λ z. octets_of first ++ z) keyed.1 ∙ sym (octets_more first p);
    }

    go : Joined es (e ∷ left) v ps → Joined es left w ps
    go r = with_others r.first r.others r.are r.keyed r.is

pub all_joined : (es left : List Element) (w : List ℕ) → Joins es left w → length left ≡ 0 → (ps : List Pair) → AreKeyed es ps → w ≡ octets_of ps
all_joined es left w s n ps h = go left n (s ps h)
  where
    none : (first others : List Pair) → ps ≡ first ++ others → AreKeyed [] others → w ≡ octets_of first → w ≡ octets_of ps
    none first [] are keyed is = is ∙ ap octets_of (sym (are ∙ append-nil first))
    none first (p ∷ others) are keyed is = absurd keyed

    go : (left : List Element) → length left ≡ 0 → Joined es left w ps → w ≡ octets_of ps
    go [] k r = none r.first r.others r.are r.keyed r.is
    go (e ∷ left) k r = absurd (omega arith)

-- ---- by index

pub sizes_at : (cs : List Copied) (i : ℕ) (d : Copied) (rest : List ℕ) → i < length cs → sum_by (λ (c : Copied). c.size) (drop i cs) ≡ length rest
    → (get_or cs i d).size ≤ length rest
sizes_at cs i d rest h s = (sizes_left (get_or cs i d) (drop (suc i) cs) rest
    (subst (λ z. sum_by (λ (c : Copied). c.size) z ≡ length rest) (drop-cons cs i d h) s)).0

pub split_on : (cs : List Copied) (octets : List ℕ) (es fs : List Element) (i : ℕ) (d : Copied) (rest after : List ℕ) (e : Element) → i < length cs
    → sum_by (λ (c : Copied). c.size) (drop i cs) ≡ length rest → Splits cs octets es (drop i cs) rest → e.place ≡ (get_or cs i d).place
    → e.octets.now ≡ take (get_or cs i d).size rest → fs ≡ es ++ e ∷ [] → after ≡ drop (get_or cs i d).size rest
    → (sum_by (λ (c : Copied). c.size) (drop (i + 1) cs) ≡ length after) × Splits cs octets fs (drop (i + 1) cs) after
split_on cs octets es fs i d rest after e h s p a b k q =
    let r = drop-cons cs i d h in
    let n = sizes_left (get_or cs i d) (drop (suc i) cs) rest (subst (λ z. sum_by (λ (c : Copied). c.size) z ≡ length rest) r s) in (
      subst (λ z. sum_by (λ (c : Copied). c.size) (drop z cs) ≡ length after) (sym (add-one i)) (n.1 ∙ ap length (sym q)),
      subst (λ z. Splits cs octets fs (drop z cs) after) (sym (add-one i)) (subst (Splits cs octets fs (drop (suc i) cs)) (sym q)
          (one_split cs octets es fs (get_or cs i d) (drop (suc i) cs) rest e (subst (λ z. Splits cs octets es z rest) r p) a b k)),
    )

pub splits_all : (cs : List Copied) (octets : List ℕ) (es : List Element) (i : ℕ) (rest : List ℕ) → Splits cs octets es (drop i cs) rest
    → length cs ≤ i → (ps : List Pair) → AreMarks cs ps → octets ≡ octets_of ps → AreKeyed es ps
splits_all cs octets es i rest s h = all_split cs octets es (drop i cs) rest s (omega (arith, length-drop i cs))

pub joined_on : (es : List Element) (i : ℕ) (d : Element) (v w : List ℕ) → i < length es → Joins es (drop i es) v → w ≡ v ++ (get_or es i d).octets.now
    → Joins es (drop (i + 1) es) w
joined_on es i d v w h j q =
    subst (λ z. Joins es (drop z es) w) (sym (add-one i))
    (one_joined es (get_or es i d) (drop (suc i) es) v w (subst (λ z. Joins es z v) (drop-cons es i d h) j) q)

pub joins_all : (es : List Element) (i : ℕ) (w : List ℕ) → Joins es (drop i es) w → length es ≤ i → (ps : List Pair) → AreKeyed es ps → w ≡ octets_of ps
joins_all es i w j h = all_joined es (drop i es) w j (omega (arith, length-drop i es))
