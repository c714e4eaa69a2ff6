-- Dates in digits (ITU-T X.680, 46 and 47).
use Rattle.std.specs.Prelude.{ℕ, ◌+◌, ◌/◌, ◌%◌, ◌==◌, ◌&&◌, ◌||◌, Bool, not, List, [], ◌∷◌, if◌then◌else◌}

-- the characters of a number below 100
abbrev pub two_digits : ℕ → List ℕ
two_digits number = (48 + number / 10) ∷ (48 + number % 10) ∷ []

-- a year has 366 days (Gregorian calendar)
abbrev pub is_leap : ℕ → Bool
is_leap year = (year % 4 == 0) && (not (year % 100 == 0) || (year % 400 == 0))

-- the days of a month
abbrev pub days_in : ℕ → ℕ → ℕ
days_in year month =
    if (month == 4) || ((month == 6) || ((month == 9) || (month == 11))) then 30 else (
    if month == 2 then (if is_leap year then 29 else 28) else 31)
