-- UTF-8 (RFC 3629, 4): the character set of a UTF8String (ITU-T X.680, 41; X.690, 8.23).
use Rattle.std.specs.Prelude.{ℕ, zero, suc, ◌+◌, ◌-◌, ◌*◌, [], ◌∷◌, if◌then◌else◌, Option, Some, None}
use Rattle.std.specs.Int.{is_in_range}
use Rattle.bcder.specs.x690.Identifier.{Tag, universal}
use Rattle.bcder.specs.x690.CharSet.{Step}

-- the tag of UTF8String (X.680, 8.4)
abbrev pub utf8_string_tag : Tag
utf8_string_tag = record { class = universal; number = 12 }

-- what the first of several octets says: its bits of the character, the range of the second octet, and how many tails follow that
pub record Lead : Type 0 where
  pub bits : ℕ
  pub low : ℕ
  pub high : ℕ
  pub tails : ℕ

-- RFC 3629, 4: what the first octet of UTF8-2 (C2 to DF), UTF8-3 (E0 to EF) and UTF8-4 (F0 to F4) says
abbrev pub lead : ℕ → Option Lead
lead a =
    if is_in_range 0xC2 0xDF a then Some (record { bits = a - 0xC0; low = 0x80; high = 0xBF; tails = 0 })
    else (if is_in_range 0xE0 0xE0 a then Some (record { bits = a - 0xE0; low = 0xA0; high = 0xBF; tails = 1 })
    else (if is_in_range 0xE1 0xEC a then Some (record { bits = a - 0xE0; low = 0x80; high = 0xBF; tails = 1 })
    else (if is_in_range 0xED 0xED a then Some (record { bits = a - 0xE0; low = 0x80; high = 0x9F; tails = 1 })
    else (if is_in_range 0xEE 0xEF a then Some (record { bits = a - 0xE0; low = 0x80; high = 0xBF; tails = 1 })
    else (if is_in_range 0xF0 0xF0 a then Some (record { bits = a - 0xF0; low = 0x90; high = 0xBF; tails = 2 })
    else (if is_in_range 0xF1 0xF3 a then Some (record { bits = a - 0xF0; low = 0x80; high = 0xBF; tails = 2 })
    else (if is_in_range 0xF4 0xF4 a then Some (record { bits = a - 0xF0; low = 0x80; high = 0x8F; tails = 2 })
    else None)))))))

-- the bits of a character so far, with the six more of an octet after the first
abbrev pub six_more : ℕ → ℕ → ℕ
six_more bits b = bits * 64 + (b - 0x80)

-- a step over n more tails, 80 to BF each
abbrev pub read_tails : ℕ → ℕ → Step
read_tails zero bits w = Some (record { char = bits; rest = w })
read_tails (suc n) bits [] = None
read_tails (suc n) bits (b ∷ w) = if is_in_range 0x80 0xBF b then read_tails n (six_more bits b) w else None

-- a step over the octets after the first
abbrev pub read_behind : Lead → Step
read_behind l [] = None
read_behind l (b ∷ w) = if is_in_range l.low l.high b then read_tails l.tails (six_more l.bits b) w else None

abbrev pub read_led : Option Lead → Step
read_led None w = None
read_led (Some l) w = read_behind l w

-- the step of UTF-8, over one octet, 00 to 7F (UTF8-1), or several
unfoldable pub utf8_step : Step
utf8_step [] = None
utf8_step (a ∷ w) = if is_in_range 0x00 0x7F a then Some (record { char = a; rest = w }) else read_led (lead a) w
