-- Which characters strings have (ITU-T X.680, 41).
use Rattle.std.specs.Prelude.{ℕ, ◌≤◌, List, [], ◌∷◌}

-- a space, and those that print
abbrev pub AreVisible : List ℕ → Type 0
AreVisible [] = Unit {0}
AreVisible (c ∷ w) = (0x20 ≤ c) × (c ≤ 0x7E) × AreVisible w
