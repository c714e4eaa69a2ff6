-- Times: as CER and DER have them (ITU-T X.690, 11.7, 11.8), and as BER has them (8.25; X.680, 46, 47).
use Rattle.std.specs.Prelude.{◌≡◌, ◌≢◌, ◌⊎◌, ℕ, ◌+◌, ◌-◌, ◌<◌, ◌≤◌, Bool, ◌&&◌, ◌||◌, nat_eq, nat_lt, IsTrue, List, length, slice_index}

-- these octets are digits
abbrev pub AreDigits : List ℕ → ℕ → ℕ → Type 0
AreDigits c from to = (i : ℕ) → from ≤ i → i < to → (0x30 ≤ slice_index c i) × (slice_index c i ≤ 0x39)

-- 11.7.5, 11.8.3: two digits are an hour up to 23, since midnight is 000000
abbrev pub IsHour : List ℕ → ℕ → Type 0
IsHour c at = (slice_index c at < 0x32) ⊎ (slice_index c at ≡ 0x32) × (slice_index c (at + 1) < 0x34)

-- X.680, 46.2, 47.3: two digits are a month, 01 to 12; a day, 01 to 31; minutes, or seconds, up to 59
unfoldable pub is_month : List ℕ → ℕ → Bool
is_month c at =
    (nat_eq (slice_index c at) 0x30 && nat_lt 0x30 (slice_index c (at + 1)))
    || (nat_eq (slice_index c at) 0x31 && nat_lt (slice_index c (at + 1)) 0x33)

unfoldable pub is_day : List ℕ → ℕ → Bool
is_day c at =
    (nat_eq (slice_index c at) 0x30 && nat_lt 0x30 (slice_index c (at + 1)))
    || nat_eq (slice_index c at) 0x31
    || nat_eq (slice_index c at) 0x32
    || (nat_eq (slice_index c at) 0x33 && nat_lt (slice_index c (at + 1)) 0x32)

unfoldable pub is_minute : List ℕ → ℕ → Bool
is_minute c at = nat_lt (slice_index c at) 0x36

-- and seconds up to 60, as ISO 8601 counts them
unfoldable pub is_second : List ℕ → ℕ → Bool
is_second c at = is_minute c at || (nat_eq (slice_index c at) 0x36 && nat_eq (slice_index c (at + 1)) 0x30)

-- 11.8: YYMMDDhhmmssZ
pub record IsUtcTime (c : List ℕ) : Type 0 where
  pub size : length c ≡ 13
  pub digits : AreDigits c 0 12
  pub month : IsTrue (is_month c 2)
  pub day : IsTrue (is_day c 4)
  pub hour : IsHour c 6
  pub minute : IsTrue (is_minute c 8)
  pub second : IsTrue (is_minute c 10)
  pub end : slice_index c 12 ≡ 0x5A

-- 11.7.3, 11.7.4: a full stop, digits of which the last isn't 0, and Z
pub record HasFraction (c : List ℕ) : Type 0 where
  pub size : 17 ≤ length c
  pub point : slice_index c 14 ≡ 0x2E
  pub digits : AreDigits c 15 (length c - 1)
  pub last : slice_index c (length c - 2) ≢ 0x30
  pub end : slice_index c (length c - 1) ≡ 0x5A

-- 11.7.1, 11.7.3: Z, or a fraction of a second, follows YYYYMMDDhhmmss
abbrev pub EndsTime : List ℕ → Type 0
EndsTime c = (length c ≡ 15) × (slice_index c 14 ≡ 0x5A) ⊎ HasFraction c

-- 11.7
pub record IsGeneralizedTime (c : List ℕ) : Type 0 where
  pub size : 15 ≤ length c
  pub digits : AreDigits c 0 14
  pub month : IsTrue (is_month c 4)
  pub day : IsTrue (is_day c 6)
  pub hour : IsHour c 8
  pub minute : IsTrue (is_minute c 10)
  pub second : IsTrue (is_second c 12)
  pub ends : EndsTime c

-- ---- in BER (8.25; X.680, 46, 47)

-- a sign, an hour, and minutes if there are more than two digits, are behind the first n octets, and end them
abbrev pub HasDifference : List ℕ → ℕ → ℕ → Type 0
HasDifference c n digits =
    (n + 1 + digits ≡ length c) × ((slice_index c n ≡ 0x2B) ⊎ (slice_index c n ≡ 0x2D)) × AreDigits c (n + 1) (length c) × IsHour c (n + 1)
    × ((digits ≡ 2) ⊎ IsTrue (is_minute c (n + 3)))

-- Z is behind the first n octets, and ends them
abbrev pub HasZ : List ℕ → ℕ → Type 0
HasZ c n = (n + 1 ≡ length c) × (slice_index c n ≡ 0x5A)

-- X.680, 47.3 c: Z, +hhmm or -hhmm is behind the first n octets, and ends them
abbrev pub EndsUtcTime : List ℕ → ℕ → Type 0
EndsUtcTime c n = HasZ c n ⊎ HasDifference c n 4

-- X.680, 47.3 a, b: the digits YYMMDDhhmm are a date, an hour and a minute
pub record IsUtcMinute (c : List ℕ) : Type 0 where
  pub month : IsTrue (is_month c 2)
  pub day : IsTrue (is_day c 4)
  pub hour : IsHour c 6
  pub minute : IsTrue (is_minute c 8)

-- X.680, 47.3: n digits, YYMMDDhhmm and perhaps more, and then Z, +hhmm or -hhmm
abbrev pub IsUtcTimeOf : List ℕ → ℕ → Type 0
IsUtcTimeOf c n = AreDigits c 0 n × IsUtcMinute c × EndsUtcTime c n

-- X.680, 47.3: YYMMDDhhmm or YYMMDDhhmmss, and then Z or a difference
abbrev pub IsUtcTimeInBer : List ℕ → Type 0
IsUtcTimeInBer c = IsUtcTimeOf c 10 ⊎ IsUtcTimeOf c 12 × IsTrue (is_minute c 10)

-- a comma or a full stop, and digits up to the first n octets
abbrev pub IsFraction : List ℕ → ℕ → ℕ → Type 0
IsFraction c from n =
    (from + 2 ≤ n) × ((slice_index c from ≡ 0x2C) ⊎ (slice_index c from ≡ 0x2E)) × AreDigits c (from + 1) n

-- the first n octets are so many digits, with a fraction of the last unit or without
abbrev pub IsLocalTimeOf : List ℕ → ℕ → ℕ → Type 0
IsLocalTimeOf c digits n = AreDigits c 0 digits × ((digits ≡ n) ⊎ IsFraction c digits n)

-- X.680, 46.2: the digits YYYYMMDDhh are a date and an hour
pub record IsDateAndHour (c : List ℕ) : Type 0 where
  pub month : IsTrue (is_month c 4)
  pub day : IsTrue (is_day c 6)
  pub hour : IsHour c 8

-- X.680, 46.2: the first n octets are YYYYMMDDhhmm, or YYYYMMDDhhmmss, with a fraction or without
abbrev pub EndsInMinutes : List ℕ → ℕ → Type 0
EndsInMinutes c n = IsLocalTimeOf c 12 n × IsTrue (is_minute c 10)

abbrev pub EndsInSeconds : List ℕ → ℕ → Type 0
EndsInSeconds c n = IsLocalTimeOf c 14 n × IsTrue (is_minute c 10) × IsTrue (is_second c 12)

-- X.680, 46.3 a: the first n octets are YYYYMMDDhh, YYYYMMDDhhmm or YYYYMMDDhhmmss, with a fraction or without
pub record IsLocalTime (c : List ℕ) (n : ℕ) : Type 0 where
  pub begins : IsDateAndHour c
  pub digits : IsLocalTimeOf c 10 n ⊎ EndsInMinutes c n ⊎ EndsInSeconds c n

-- X.680, 46.3 b: with Z behind it
pub record IsTimeWithZ (c : List ℕ) : Type 0 where
  pub local : IsLocalTime c (length c - 1)
  pub end : HasZ c (length c - 1)

-- X.680, 46.3 c: with a difference of so many digits behind it
pub record IsTimeWithDifference (c : List ℕ) (digits : ℕ) : Type 0 where
  pub local : IsLocalTime c (length c - (digits + 1))
  pub end : HasDifference c (length c - (digits + 1)) digits

-- X.680, 46.3: a local time, with Z, +hhmm, -hhmm, +hh, -hh or nothing behind it
abbrev pub IsGeneralizedTimeInBer : List ℕ → Type 0
IsGeneralizedTimeInBer c = IsLocalTime c (length c) ⊎ IsTimeWithZ c ⊎ IsTimeWithDifference c 4 ⊎ IsTimeWithDifference c 2
