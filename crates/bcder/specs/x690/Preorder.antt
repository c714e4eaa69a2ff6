-- The headings of a value and of the values inside it, each before those inside it.
use Rattle.std.specs.Prelude.{ℕ, ◌+◌, Bool, true, false, List, [], ◌∷◌, ◌++◌}
use Rattle.bcder.specs.x690.Identifier.{Tag}
use Rattle.bcder.specs.x690.Tree.{Tree, primitive, constructed, Trees, no_trees, ◌∷ₜ◌}

-- the tag of a value, whether it is constructed, and its depth
pub record Heading : Type 0 where
  pub tag : Tag
  pub constructed : Bool
  pub depth : ℕ

abbrev mutual
  -- the headings of the value and of all values inside, each before those inside it
  pub preorder : Tree → ℕ → List Heading
  preorder (primitive t contents) d = record { tag = t; constructed = false; depth = d } ∷ []
  preorder (constructed t ts) d = record { tag = t; constructed = true; depth = d } ∷ preorders ts (d + 1)

  pub preorders : Trees → ℕ → List Heading
  preorders no_trees d = []
  preorders (t ∷ₜ ts) d = preorder t d ++ preorders ts d
