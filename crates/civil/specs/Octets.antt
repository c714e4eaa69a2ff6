-- The contents octets of times, in the one form of CER and DER (ITU-T X.690, 11.7, 11.8).
use Rattle.std.specs.Prelude.{ℕ, zero, suc, ◌+◌, ◌/◌, ◌%◌, ◌^◌, ◌==◌, List, [], ◌∷◌, ◌++◌, codes, if◌then◌else◌}
use Rattle.civil.specs.Time.{Time}

-- two digits
abbrev pub two : ℕ → List ℕ
two n = (48 + n / 10) ∷ (48 + n % 10) ∷ []

-- MMDDhhmmss
abbrev pub from_month : Time → List ℕ
from_month t = two t.month ++ two t.day ++ two t.hour ++ two t.minute ++ two t.second

-- 11.8: YYMMDDhhmmssZ
unfoldable pub utc_octets : Time → List ℕ
utc_octets t = two (t.year % 100) ++ from_month t ++ codes "Z"

-- the first of k digits that n has, and the others, up to the last that isn't 0
unfoldable pub digits : ℕ → ℕ → List ℕ
digits zero n = []
digits (suc k) n = if n == 0 then [] else (48 + n / 10 ^ k) ∷ digits k (n % 10 ^ k)

-- 11.7.2, 11.7.3: a full stop and the digits of a fraction of a second, which don't end with 0, or nothing
abbrev pub fraction : ℕ → List ℕ
fraction n = if n == 0 then [] else (codes "." ++ digits 9 n)

-- 11.7: YYYYMMDDhhmmss, with a fraction or without, and Z
unfoldable pub generalized_octets : Time → List ℕ
generalized_octets t = two (t.year / 100) ++ two (t.year % 100) ++ from_month t ++ fraction t.nanosecond ++ codes "Z"
