-- Character sets whose strings are text without conversion (RFC 3629).
use Rattle.std.specs.Prelude.{◌≡◌, ◌↔◌, ℕ, List, true}
use Rattle.std.specs.Str.{IsUtf8, chars, encode_utf8_all, all_scalars}
use Rattle.bcder.specs.x690.CharSet.{Step, Spells, IsOfSet}

-- octets that spell characters are the text of these
abbrev pub AreTexts : Step → Type 0
AreTexts step = (w cs : List ℕ) → Spells step w cs → IsUtf8 w × (chars w ≡ cs)

-- octets spell characters exactly if they are the encodings of these, and all are Unicode's
abbrev pub AreEncoded : Step → Type 0
AreEncoded step = (w cs : List ℕ) → Spells step w cs ↔ (all_scalars cs ≡ true) × (encode_utf8_all cs ≡ w)

-- the strings of the set are exactly the texts
abbrev pub AreAllTexts : Step → Type 0
AreAllTexts step = (w : List ℕ) → IsOfSet step w ↔ IsUtf8 w
