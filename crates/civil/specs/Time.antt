-- A date and a time of day.
use Rattle.std.specs.Prelude.{◌≡◌, ℕ, ◌+◌, ◌*◌, ◌<◌, ◌≤◌}
use Rattle.civil.specs.Calendar.{days_in_month, day_number}

pub record Time : Type 0 where
  pub year : ℕ
  pub month : ℕ
  pub day : ℕ
  pub hour : ℕ
  pub minute : ℕ
  pub second : ℕ
  pub nanosecond : ℕ

-- it is one of the calendar and of the clock (ISO 8601): second 60 is a leap second, and there is no hour 24 (X.680, 46.1)
pub record IsTime (t : Time) : Type 0 where
  pub year : t.year < 10000
  pub from_month : 1 ≤ t.month
  pub month : t.month ≤ 12
  pub from_day : 1 ≤ t.day
  pub day : t.day ≤ days_in_month t.year t.month
  pub hour : t.hour < 24
  pub minute : t.minute < 60
  pub second : t.second ≤ 60
  pub nanosecond : t.nanosecond < 1000000000

-- X.680, 47.3; RFC 5280, 4.1.2.5.1: what a UTCTime can say, to the second, in the years 1950 to 2049
pub record IsUtcTime (t : Time) : Type 0 where
  pub time : IsTime t
  pub from_year : 1950 ≤ t.year
  pub year : t.year < 2050
  pub second : t.second < 60
  pub nanosecond : t.nanosecond ≡ 0

-- a time of whole seconds, which isn't in a leap second
pub record IsWhole (t : Time) : Type 0 where
  pub time : IsTime t
  pub second : t.second < 60
  pub nanosecond : t.nanosecond ≡ 0

-- the seconds since the year 0 began
abbrev pub seconds : Time → ℕ
seconds t = 86400 * day_number t.year t.month t.day + (3600 * t.hour + 60 * t.minute + t.second)
