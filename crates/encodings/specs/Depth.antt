-- How deep values are.
use Rattle.std.specs.Prelude.{ℕ, ◌+◌, max, List, [], ◌∷◌}
use Rattle.bcder.specs.x690.Preorder.{Heading}

-- the number of values that are one inside the other, at most
abbrev pub deepest : List Heading → ℕ
deepest [] = 0
deepest (h ∷ hs) = max (h.depth + 1) (deepest hs)
