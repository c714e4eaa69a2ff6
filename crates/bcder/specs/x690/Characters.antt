-- The characters that octets spell (ITU-T X.690, 8.23).
use Rattle.std.specs.Prelude.{ℕ, zero, suc, List, [], ◌∷◌, length, Option, Some, None}
use Rattle.bcder.specs.x690.CharSet.{Front, Step}

-- a character, and those of the octets after it
abbrev pub and_behind : (List ℕ → List ℕ) → Option Front → List ℕ
and_behind behind None = []
and_behind behind (Some x) = x.char ∷ behind x.rest

module _ (step : Step) where
  -- the characters that octets spell, at most n
  abbrev pub characters_within : ℕ → List ℕ → List ℕ
  characters_within zero w = []
  characters_within (suc n) w = and_behind (characters_within n) (step w)

  -- the characters that octets spell, each of which takes at least one octet
  unfoldable pub characters : List ℕ → List ℕ
  characters w = characters_within (length w) w
