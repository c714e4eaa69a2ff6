-- Character sets whose characters are one octet each (ITU-T X.680, 41; X.690, 8.23).
use Rattle.std.specs.Prelude.{ℕ, List, [], ◌∷◌, Bool, false, ◌||◌, ◌==◌, if◌then◌else◌, Some, None, codes}
use Rattle.std.specs.Int.{is_in_range}
use Rattle.bcder.specs.x690.Identifier.{Tag, universal}
use Rattle.bcder.specs.x690.CharSet.{Step}

-- a step that takes one octet: each octet that passes a test is the character of its number
abbrev pub one_octet_step : (ℕ → Bool) → Step
one_octet_step has [] = None
one_octet_step has (b ∷ w) = if has b then Some (record { char = b; rest = w }) else None

abbrev pub is_among : List ℕ → ℕ → Bool
is_among [] b = false
is_among (c ∷ cs) b = b == c || is_among cs b

abbrev pub is_capital_letter : ℕ → Bool
is_capital_letter b = is_in_range 0x41 0x5A b

abbrev pub is_small_letter : ℕ → Bool
is_small_letter b = is_in_range 0x61 0x7A b

abbrev pub is_digit : ℕ → Bool
is_digit b = is_in_range 0x30 0x39 b

-- ---- the sets (X.680, 41), and their tags (X.680, 8.4)

-- digits and space
abbrev pub is_numeric : ℕ → Bool
is_numeric b = is_digit b || is_among (codes " ") b

abbrev pub numeric_string_tag : Tag
numeric_string_tag = record { class = universal; number = 18 }

-- capital letters, small letters, digits, space, apostrophe, parentheses, plus sign, comma, hyphen,
-- full stop, solidus, colon, equals sign, question mark
abbrev pub is_printable : ℕ → Bool
is_printable b = (is_capital_letter b || is_small_letter b) || (is_digit b || is_among (codes " '()+,-./:=?") b)

abbrev pub printable_string_tag : Tag
printable_string_tag = record { class = universal; number = 19 }

-- the characters of the International Alphabet No. 5: 00 to 7F
abbrev pub is_ia5 : ℕ → Bool
is_ia5 b = is_in_range 0x00 0x7F b

abbrev pub ia5_string_tag : Tag
ia5_string_tag = record { class = universal; number = 22 }
