-- What is said of a status, and of what was stored.
use Rattle.std.specs.Prelude.{◌≡◌, ◌⊎◌, ℕ}
use Rattle.encodings.specs.Status.{done, absent}

-- the number stands for no rules
abbrev pub unknown_rules : ℕ
unknown_rules = 1

-- P holds, or not
abbrev pub Holds : Type 0 → ℕ → Type 0
Holds P status = (status ≡ done) × P ⊎ (status ≡ absent) × (P → ⊥)

-- P holds of what was stored, and it was done; or P holds of nothing, and nothing was stored
abbrev pub Found : {T : Type 0} → (T → Type 0) → ℕ → T → T → Type 0
Found P status old new = (status ≡ done) × P new ⊎ (status ≡ absent) × ((x : _) → P x → ⊥) × (new ≡ old)
