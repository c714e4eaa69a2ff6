-- Characters of two octets and of four.
use Rattle.std.proofs.Common.{◌≡◌, ℕ, ◌+◌, ◌*◌, ◌<◌, ◌≤◌, List, [], ◌∷◌, length, get_or, drop, refl, arith}
use Rattle.rules.specs.Characters.{AreCells, IsCell, AreCodePoints, IsCodePoint}

pub some_cells : (w : List ℕ) → 2 ≤ length w → AreCells w → IsCell (get_or w 0 0 * 256 + get_or w 1 0) × AreCells (drop 2 w)
some_cells [] l h = absurd (omega (arith, l))
some_cells (a ∷ []) l h = absurd (omega (arith, l))
some_cells (a ∷ b ∷ w) l h = h

pub cells_more : (w : List ℕ) → 2 ≤ length w → IsCell (get_or w 0 0 * 256 + get_or w 1 0) → AreCells (drop 2 w) → AreCells w
cells_more [] l h m = absurd (omega (arith, l))
cells_more (a ∷ []) l h m = absurd (omega (arith, l))
cells_more (a ∷ b ∷ w) l h m = (h, m)

pub no_cells : (w : List ℕ) → length w ≡ 0 → AreCells w
no_cells [] l = tt
no_cells (a ∷ w) l = absurd (omega (arith, l))

pub half_a_cell : (w : List ℕ) → length w < 2 → AreCells w → length w ≡ 0
half_a_cell [] l h = refl
half_a_cell (a ∷ []) l h = absurd h
half_a_cell (a ∷ b ∷ w) l h = absurd (omega (arith, l))

abbrev first_of : List ℕ → ℕ
first_of w = ((get_or w 0 0 * 256 + get_or w 1 0) * 256 + get_or w 2 0) * 256 + get_or w 3 0

pub some_points : (w : List ℕ) → 4 ≤ length w → AreCodePoints w → IsCodePoint (first_of w) × AreCodePoints (drop 4 w)
some_points [] l h = absurd (omega (arith, l))
some_points (a ∷ []) l h = absurd (omega (arith, l))
some_points (a ∷ b ∷ []) l h = absurd (omega (arith, l))
some_points (a ∷ b ∷ c ∷ []) l h = absurd (omega (arith, l))
some_points (a ∷ b ∷ c ∷ d ∷ w) l h = h

pub points_more : (w : List ℕ) → 4 ≤ length w → IsCodePoint (first_of w) → AreCodePoints (drop 4 w) → AreCodePoints w
points_more [] l h m = absurd (omega (arith, l))
points_more (a ∷ []) l h m = absurd (omega (arith, l))
points_more (a ∷ b ∷ []) l h m = absurd (omega (arith, l))
points_more (a ∷ b ∷ c ∷ []) l h m = absurd (omega (arith, l))
points_more (a ∷ b ∷ c ∷ d ∷ w) l h m = (h, m)

pub no_points : (w : List ℕ) → length w ≡ 0 → AreCodePoints w
no_points [] l = tt
no_points (a ∷ w) l = absurd (omega (arith, l))

pub part_of_a_point : (w : List ℕ) → length w < 4 → AreCodePoints w → length w ≡ 0
part_of_a_point [] l h = refl
part_of_a_point (a ∷ []) l h = absurd h
part_of_a_point (a ∷ b ∷ []) l h = absurd h
part_of_a_point (a ∷ b ∷ c ∷ []) l h = absurd h
part_of_a_point (a ∷ b ∷ c ∷ d ∷ w) l h = absurd (omega (arith, l))
