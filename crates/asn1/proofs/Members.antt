-- Lists of values, and a first one that has one of the tags.
use Rattle.std.proofs.Common.{◌≡◌, sym, subst}
use Rattle.bcder.specs.x690.Identifier.{Tag}
use Rattle.bcder.specs.x690.Tree.{Tree, Trees, no_trees, ◌∷ₜ◌}
use Rattle.bcder.specs.calls.Valued.{tag_of}
use Rattle.asn1.specs.Types.{IsMember, BeginWithout}

pub no_cons : (t : Tree) (ts : Trees) → (t ∷ₜ ts) ≡ no_trees → ⊥
no_cons t ts e = cc

pub cons_rest : (t u : Tree) (ts us : Trees) → (t ∷ₜ ts) ≡ (u ∷ₜ us) → ts ≡ us
cons_rest t u ts us e = cc

pub cons_first : (t u : Tree) (ts us : Trees) → (t ∷ₜ ts) ≡ (u ∷ₜ us) → t ≡ u
cons_first t u ts us e = cc

pub begins : {T : Type 0} (Tags : Tag → Type 0) (Means : Tree → T → Type 0) (ts vs : Trees) (y : T) → IsMember Tags Means ts y vs
    → BeginWithout Tags ts → ⊥
begins Tags Means no_trees vs y g b = no_cons g.tree vs (sym g.are)
begins Tags Means (t ∷ₜ ts) vs y g b = b (subst (λ z. Tags (tag_of z)) (sym (cons_first t g.tree ts vs g.are)) g.tagged)
