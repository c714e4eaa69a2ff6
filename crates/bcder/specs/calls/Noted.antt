-- The sizes that are noted when encoders are measured, and read when they are written.
use Rattle.std.specs.Prelude.{◌≡◌, ℕ, List, [], ◌∷◌, ◌++◌, length, take, Ok, ◌⊎◌}
use Rattle.bcder.specs.declared.{encode.sizes.Sizes.Sizes, mode.Mode.Mode, mode.Mode.TheVariants.Cer}
use Rattle.bcder.specs.calls.Meaning.{Encoded, Meaning}

-- the noted sizes
abbrev pub noted : Sizes → List ℕ
noted s = take s.count s.places

-- ---- what is read of the sizes that are left, and which are left then

-- no sizes are read
abbrev pub ReadsNone : List ℕ → List ℕ → Type 0
ReadsNone left after = left ≡ after

-- what R reads, or nothing if no sizes are left
abbrev pub Reads : (List ℕ → List ℕ → Type 0) → List ℕ → List ℕ → Type 0
Reads R left after = ((left ≡ []) × (after ≡ [])) ⊎ R left after

-- what R reads, and then what S reads
abbrev pub ReadsThen : (List ℕ → List ℕ → Type 0) → (List ℕ → List ℕ → Type 0) → List ℕ → List ℕ → Type 0
ReadsThen R S left after = (between : List ℕ) × Reads R left between × Reads S between after

-- what R reads for each of a list, in order
abbrev pub ReadsEach : {X : Type 0} → (X → List ℕ → List ℕ → Type 0) → List X → List ℕ → List ℕ → Type 0
ReadsEach R [] = ReadsNone
ReadsEach R (x ∷ xs) = ReadsThen (R x) (ReadsEach R xs)

-- what is meant has n octets
abbrev pub HasSize : (Meaning → Type 0) → ℕ → Type 0
HasSize M n = (e : Encoded) → M (Ok e) → n ≡ length e.octets

-- the size of M, and then what R reads
abbrev pub ReadsInside : (Meaning → Type 0) → (List ℕ → List ℕ → Type 0) → List ℕ → List ℕ → Type 0
ReadsInside M R left after = (size : ℕ) × (behind : List ℕ) × (left ≡ size ∷ behind) × HasSize M size × Reads R behind after

-- the size of M, the content of a constructed value, and then what R reads; in CER, which has no such size, only what R reads
abbrev pub ReadsContents : Mode → (Meaning → Type 0) → (List ℕ → List ℕ → Type 0) → List ℕ → List ℕ → Type 0
ReadsContents Cer M R = Reads R
ReadsContents mode M R = ReadsInside M R

-- ---- what calls require and return

-- R may read what is left
pub record MayRead (R : List ℕ → List ℕ → Type 0) (left : List ℕ) : Type 0 where
  pub after : List ℕ
  pub reads : Reads R left after

-- all that R reads was read, or nothing is left
pub record HasRead (R : List ℕ → List ℕ → Type 0) (old new : List ℕ) : Type 0 where
  pub ends : (new ≡ []) ⊎ ((after : List ℕ) → Reads R old after → new ≡ after)

-- sizes were noted that R may read, and after them others while there is room
pub record Notes (R : List ℕ → List ℕ → Type 0) (old new : Sizes) : Type 0 where
  pub sizes : List ℕ
  pub added : noted new ≡ noted old ++ sizes
  pub reads : (behind : List ℕ) → (new.room ≡ 0 → behind ≡ []) → Reads R (sizes ++ behind) behind
  pub full : old.room ≡ 0 → (sizes ≡ []) × (new.room ≡ 0)
