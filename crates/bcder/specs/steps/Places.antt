-- What private steps return that reserve a place for a size, and fill it.
use Rattle.std.specs.Prelude.{◌≡◌, ◌≢◌, ◌≤◌, ℕ, List, [], ◌∷◌, ◌++◌, length}
use Rattle.bcder.specs.declared.encode.sizes.Sizes.{Sizes}
use Rattle.bcder.specs.declared.mode.Mode.{Mode}
use Rattle.bcder.specs.declared.mode.Mode.TheVariants.{Cer}
use Rattle.bcder.specs.calls.Noted.{noted}

-- a place was reserved, if there is room
pub record Reserves (old : Sizes) (place : ℕ) (new : Sizes) : Type 0 where
  pub at : place ≡ length (noted old)
  pub full : old.room ≡ 0 → (noted new ≡ noted old) × (new.room ≡ 0)
  pub room : old.room ≢ 0 → noted new ≡ noted old ++ 0 ∷ []

-- the size was put into the place
pub record Fills (old : Sizes) (place size : ℕ) (new : Sizes) : Type 0 where
  pub there : (before behind : List ℕ) (k : ℕ) → noted old ≡ before ++ k ∷ behind → place ≡ length before
      → noted new ≡ before ++ size ∷ behind
  pub beyond : length (noted old) ≤ place → noted new ≡ noted old
  pub room : new.room ≡ old.room

-- a place for the size of contents, which CER doesn't need
abbrev pub ReservesContents : Mode → Sizes → ℕ → Sizes → Type 0
ReservesContents Cer old place new = new ≡ old
ReservesContents mode old place new = Reserves old place new

abbrev pub FillsContents : Mode → Sizes → ℕ → ℕ → Sizes → Type 0
FillsContents Cer old place size new = new ≡ old
FillsContents mode old place size new = Fills old place size new
