-- A list of values that grows by one value at a time, in preorder.
use Rattle.std.specs.Prelude.{ℕ, zero, suc}
use Rattle.bcder.specs.x690.Tree.{Tree, primitive, constructed, Trees, no_trees, ◌∷ₜ◌, ◌+++◌}

-- k constructed values are open, each the last inside the one before it
abbrev pub AreOpen : ℕ → Trees → Type 0
AreOpen zero ts = Unit {0}
AreOpen (suc k) no_trees = ⊥
AreOpen (suc k) (primitive t contents ∷ₜ no_trees) = ⊥
AreOpen (suc k) (constructed t ts ∷ₜ no_trees) = AreOpen k ts
AreOpen (suc k) (t ∷ₜ (u ∷ₜ us)) = AreOpen (suc k) (u ∷ₜ us)

-- the values, with one more at the end of the k-th open one
abbrev pub grown : ℕ → Trees → Tree → Trees
grown zero ts x = ts +++ (x ∷ₜ no_trees)
grown (suc k) no_trees x = no_trees
grown (suc k) (primitive t contents ∷ₜ no_trees) x = primitive t contents ∷ₜ no_trees
grown (suc k) (constructed t ts ∷ₜ no_trees) x = constructed t (grown k ts x) ∷ₜ no_trees
grown (suc k) (t ∷ₜ (u ∷ₜ us)) x = t ∷ₜ grown (suc k) (u ∷ₜ us) x
