-- The preorder of values that grow.
use Rattle.std.proofs.Common.{◌≡◌, ℕ, zero, suc, ◌+◌, ◌≤◌, true, List, ◌∷◌, ◌++◌, refl, sym, ap, ◌∙◌, append_assoc, append-nil, arith}
use Rattle.bcder.specs.x690.Identifier.{Tag}
use Rattle.bcder.specs.x690.Tree.{Tree, primitive, constructed, Trees, no_trees, ◌∷ₜ◌, ◌+++◌}
use Rattle.bcder.specs.x690.Preorder.{Heading, preorder, preorders}
use Rattle.bcder.specs.steps.Growing.{AreOpen, grown}

pub preorders-join : (ts us : Trees) (d : ℕ) → preorders (ts +++ us) d ≡ preorders ts d ++ preorders us d
preorders-join no_trees us d = refl
preorders-join (t ∷ₜ ts) us d = ap (λ l. preorder t d ++ l) (preorders-join ts us d) ∙ sym (append_assoc (preorder t d) (preorders ts d) (preorders us d))

pub preorders-grown : (k : ℕ) (ts : Trees) (x : Tree) (d : ℕ) → AreOpen k ts → preorders (grown k ts x) d ≡ preorders ts d ++ preorder x (d + k)
preorders-grown zero ts x d h =
    let e : d + 0 ≡ d = omega arith in
    preorders-join ts (x ∷ₜ no_trees) d ∙ ap (λ l. preorders ts d ++ l) (append-nil (preorder x d) ∙ ap (preorder x) (sym e))
preorders-grown (suc k) no_trees x d h = absurd h
preorders-grown (suc k) (primitive t contents ∷ₜ no_trees) x d h = absurd h
preorders-grown (suc k) (constructed t ts ∷ₜ no_trees) x d h =
    let e : d + 1 + k ≡ d + suc k = omega arith in
    let head : Heading = record { tag = t; constructed = true; depth = d } in
    let old : List Heading = preorders ts (d + 1) in
    let inner = preorders-grown k ts x (d + 1) h ∙ ap (λ n. preorders ts (d + 1) ++ preorder x n) e in
    ap (λ l. head ∷ l) (append-nil (preorders (grown k ts x) (d + 1)) ∙ inner) ∙ sym (ap (λ l. head ∷ (l ++ preorder x (d + suc k))) (append-nil old))
preorders-grown (suc k) (t ∷ₜ (u ∷ₜ us)) x d h =
    ap (λ l. preorder t d ++ l) (preorders-grown (suc k) (u ∷ₜ us) x d h) ∙ sym (append_assoc (preorder t d) (preorders (u ∷ₜ us) d) (preorder x (d + suc k)))

cons_open : (k : ℕ) (t : Tree) (us : Trees) → AreOpen (suc k) us → AreOpen (suc k) (t ∷ₜ us)
cons_open k t no_trees h = absurd h
cons_open k t (u ∷ₜ us) h = h

-- the levels at or above the one that grew stay open
pub AreOpen-grown : (j k : ℕ) (ts : Trees) (x : Tree) → j ≤ k → AreOpen k ts → AreOpen j (grown k ts x)
AreOpen-grown zero k ts x l h = tt
AreOpen-grown (suc j) zero ts x l h = absurd (omega arith)
AreOpen-grown (suc j) (suc k) no_trees x l h = h
AreOpen-grown (suc j) (suc k) (primitive t contents ∷ₜ no_trees) x l h = h
AreOpen-grown (suc j) (suc k) (constructed t ts ∷ₜ no_trees) x l h = AreOpen-grown j k ts x (omega arith) h
AreOpen-grown (suc j) (suc k) (t ∷ₜ (u ∷ₜ us)) x l h = cons_open j t (grown (suc k) (u ∷ₜ us) x) (AreOpen-grown (suc j) (suc k) (u ∷ₜ us) x l h)

-- a constructed value that came last is open
new_last : (ts : Trees) (t : Tag) → AreOpen 1 (ts +++ (constructed t no_trees ∷ₜ no_trees))
new_last no_trees t = tt
new_last (u ∷ₜ us) t = cons_open 0 u (us +++ (constructed t no_trees ∷ₜ no_trees)) (new_last us t)

pub AreOpen-new : (k : ℕ) (ts : Trees) (t : Tag) → AreOpen k ts → AreOpen (suc k) (grown k ts (constructed t no_trees))
AreOpen-new zero ts t h = new_last ts t
AreOpen-new (suc k) no_trees t h = absurd h
AreOpen-new (suc k) (primitive u contents ∷ₜ no_trees) t h = absurd h
AreOpen-new (suc k) (constructed u ts ∷ₜ no_trees) t h = AreOpen-new k ts t h
AreOpen-new (suc k) (v ∷ₜ (u ∷ₜ us)) t h = cons_open (suc k) v (grown (suc k) (u ∷ₜ us) (constructed t no_trees)) (AreOpen-new (suc k) (u ∷ₜ us) t h)
