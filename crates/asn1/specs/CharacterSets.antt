-- The characters of VisibleString, BMPString and UniversalString (ITU-T X.680, 41; X.690, 8.23).
use Rattle.std.specs.Prelude.{ℕ, ◌+◌, ◌*◌, ◌/◌, ◌%◌, List, [], ◌∷◌, ◌++◌, Bool, ◌||◌, nat_lt, if◌then◌else◌, Some, None}
use Rattle.std.specs.Int.{is_in_range}
use Rattle.bcder.specs.x690.Identifier.{Tag, universal}
use Rattle.bcder.specs.x690.CharSet.{Step}

-- ---- VisibleString, whose characters are one octet each

abbrev pub visible_string_tag : Tag
visible_string_tag = record { class = universal; number = 26 }

-- SPACE, and the characters of ASCII that print
abbrev pub is_visible : ℕ → Bool
is_visible b = is_in_range 0x20 0x7E b

-- ---- BMPString

abbrev pub bmp_string_tag : Tag
bmp_string_tag = record { class = universal; number = 30 }

-- the numbers of the characters: those of the Basic Multilingual Plane but for its last two, and none of a surrogate pair
abbrev pub is_cell : ℕ → Bool
is_cell n = nat_lt n 0xD800 || is_in_range 0xE000 0xFFFD n

-- X.690, 8.23.8: each character is two octets, its number
abbrev pub cell_octets : ℕ → List ℕ
cell_octets n = n / 0x100 ∷ n % 0x100 ∷ []

abbrev pub cell_step : Step
cell_step [] = None
cell_step (a ∷ []) = None
cell_step (a ∷ b ∷ w) = if is_cell (a * 0x100 + b) then Some (record { char = a * 0x100 + b; rest = w }) else None

-- ---- UniversalString

abbrev pub universal_string_tag : Tag
universal_string_tag = record { class = universal; number = 28 }

-- the numbers of the characters: all of ISO/IEC 10646, and none of a surrogate pair
abbrev pub is_code_point : ℕ → Bool
is_code_point n = nat_lt n 0xD800 || is_in_range 0xE000 0x10_FFFF n

-- X.690, 8.23.7: each character is four octets, its number
abbrev pub code_point_octets : ℕ → List ℕ
code_point_octets n = 0x00 ∷ n / 0x1_0000 ∷ n / 0x100 % 0x100 ∷ n % 0x100 ∷ []

abbrev pub number_of_four : ℕ → ℕ → ℕ → ℕ → ℕ
number_of_four a b c d = ((a * 0x100 + b) * 0x100 + c) * 0x100 + d

abbrev pub code_point_step : Step
code_point_step [] = None
code_point_step (a ∷ []) = None
code_point_step (a ∷ b ∷ []) = None
code_point_step (a ∷ b ∷ c ∷ []) = None
code_point_step (a ∷ b ∷ c ∷ d ∷ w) =
    if is_code_point (number_of_four a b c d) then Some (record { char = number_of_four a b c d; rest = w }) else None

-- ---- strings of registered sets (X.680, 41, table 8)

abbrev pub teletex_string_tag : Tag
teletex_string_tag = record { class = universal; number = 20 }

abbrev pub general_string_tag : Tag
general_string_tag = record { class = universal; number = 27 }

-- ---- characters, one after the other

abbrev pub each_octets : (ℕ → List ℕ) → List ℕ → List ℕ
each_octets octets [] = []
each_octets octets (c ∷ cs) = octets c ++ each_octets octets cs
