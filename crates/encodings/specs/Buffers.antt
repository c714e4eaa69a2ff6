-- Octets that are stored in a buffer of the caller's.
use Rattle.std.specs.Prelude.{◌≡◌, ◌⊎◌, ℕ, ◌<◌, ◌≤◌, List, ◌++◌, length, drop}
use Rattle.encodings.specs.Status.{done, absent, too_small}

-- the octets w are at the front of a buffer, unless it has no room for all of them; n is their number
pub record IsAtFront (w old new : List ℕ) (n : ℕ) : Type 0 where
  pub count : n ≡ length w
  pub room : length new ≡ length old
  pub front : length w ≤ length old → new ≡ w ++ drop (length w) old

-- the octets w were stored at the front of a buffer, or it has no room for all of them and is as it was; n is their number
pub data IsStored (w : List ℕ) (status : ℕ) (old new : List ℕ) (n : ℕ) : Type 0 where
  stored : status ≡ done → length w ≤ length old → new ≡ w ++ drop (length w) old → n ≡ length w → IsStored w status old new n
  no_room : status ≡ too_small → length old < length w → new ≡ old → n ≡ length w → IsStored w status old new n

-- octets of which P holds were stored; or P holds of none, and nothing was stored
abbrev pub Stores : (List ℕ → Type 0) → ℕ → List ℕ → List ℕ → ℕ → ℕ → Type 0
Stores P status old new before n =
    ((w : List ℕ) × P w × IsStored w status old new n)
    ⊎ (status ≡ absent) × ((w : List ℕ) → P w → ⊥) × (new ≡ old) × (n ≡ before)
