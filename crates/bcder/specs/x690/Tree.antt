-- Values, whatever form their lengths are written in.
use Rattle.std.specs.Prelude.{ℕ, List}
use Rattle.bcder.specs.x690.Identifier.{Tag}

infixr 67 ◌∷ₜ◌
mutual
  pub data Tree : Type 0 where
    primitive : Tag → List ℕ → Tree
    constructed : Tag → Trees → Tree

  -- a list of values
  pub data Trees : Type 0 where
    no_trees : Trees
    ◌∷ₜ◌ : Tree → Trees → Trees

-- one list after another
infixl 65 ◌+++◌
abbrev pub ◌+++◌ : Trees → Trees → Trees
no_trees +++ us = us
(t ∷ₜ ts) +++ us = t ∷ₜ (ts +++ us)
