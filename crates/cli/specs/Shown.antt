-- Text that a terminal shows as it is.
use Rattle.std.specs.Prelude.{◌≡◌, ℕ, Bool, false, List, [], ◌∷◌, ◌++◌, codes, nat_lt, nat_le, nat_eq, ◌&&◌, ◌||◌}

-- the three octets begin a control character in UTF-8: one of C0, DEL, one of C1; a mark that turns the direction of text
-- (U+061C, U+200E, U+200F, U+202A to U+202E, U+2066 to U+2069); a separator of lines or paragraphs (U+2028, U+2029)
abbrev pub are_control : ℕ → ℕ → ℕ → Bool
are_control a b c = nat_lt a 0x20 || nat_eq a 0x7F || nat_eq a 0xC2 && nat_lt b 0xA0 || nat_eq a 0xD8 && nat_eq b 0x9C
    || nat_eq a 0xE2 && nat_eq b 0x80 && (nat_eq c 0x8E || nat_eq c 0x8F || nat_le 0xA8 c && nat_le c 0xAE)
    || nat_eq a 0xE2 && nat_eq b 0x81 && (nat_le 0xA6 c && nat_le c 0xA9)

-- such octets come first; those that aren't there are 0
abbrev pub begins_control : List ℕ → Bool
begins_control [] = false
begins_control (a ∷ []) = are_control a 0 0
begins_control (a ∷ b ∷ []) = are_control a b 0
begins_control (a ∷ b ∷ c ∷ w) = are_control a b c

-- such octets stand somewhere
abbrev pub has_control : List ℕ → Bool
has_control [] = false
has_control (a ∷ w) = begins_control (a ∷ w) || has_control w

-- a text without them
abbrev pub IsShown : List ℕ → Type 0
IsShown w = has_control w ≡ false

-- a line: a text without them, and a newline
abbrev pub IsLine : List ℕ → Type 0
IsLine w = (text : List ℕ) × IsShown text × (w ≡ text ++ codes "\n")
