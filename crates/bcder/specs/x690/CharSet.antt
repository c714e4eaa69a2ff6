-- Character sets: which characters octets spell (ITU-T X.690, 8.23).
use Rattle.std.specs.Prelude.{◌≡◌, ℕ, List, [], ◌∷◌, ◌++◌, Option, Some}
use Rattle.std.specs.Char.{IsScalar}

-- the first character, by its number, and the octets after it
pub record Front : Type 0 where
  pub char : ℕ
  pub rest : List ℕ

-- how a character is read from the beginning of octets, if there is one
abbrev pub Step : Type 0
Step = List ℕ → Option Front

-- a character takes at least one octet, and is one of Unicode's
pub record IsStep (step : Step) : Type 0 where
  pub takes : (w : List ℕ) (x : Front) → step w ≡ Some x → (b : ℕ) × (bs : List ℕ) × (w ≡ (b ∷ bs) ++ x.rest)
  pub scalar : (w : List ℕ) (x : Front) → step w ≡ Some x → IsScalar x.char

module _ (step : Step) where
  -- octets spell these characters, one after the other, and nothing else
  abbrev pub Spells : List ℕ → List ℕ → Type 0
  Spells w [] = w ≡ []
  Spells w (c ∷ cs) = (rest : List ℕ) × (step w ≡ Some (record { char = c; rest = rest })) × Spells rest cs

  -- octets are a string of the set
  abbrev pub IsOfSet : List ℕ → Type 0
  IsOfSet w = (cs : List ℕ) × Spells w cs

  -- no octets spell these characters
  abbrev pub HasNo : List ℕ → Type 0
  HasNo cs = (w : List ℕ) → Spells w cs → ⊥

  -- some octets spell these characters
  abbrev pub HasSome : List ℕ → Type 0
  HasSome cs = (w : List ℕ) × Spells w cs
  -- ---- what the calls of a set return
