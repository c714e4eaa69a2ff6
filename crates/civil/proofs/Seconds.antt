-- Times as seconds since the year 0 began.
use Rattle.std.proofs.Common.{◌≡◌, ℕ, suc, ◌+◌, ◌-◌, ◌*◌, ◌/◌, ◌%◌, ◌<◌, ◌≤◌, inl, inr, sym, ap, ◌∙◌, arith}
use Rattle.std.proofs.lemmas.Bool.{cases_order}
use Rattle.civil.specs.Calendar.{days_in_year, days_before_year, days_of_months, day_number}
use Rattle.civil.specs.Time.{Time, IsTime, IsWhole, seconds}
use Rattle.civil.proofs.Days.{years_closed, next_year, all_months, later_year, month_ends}
use Rattle.civil.proofs.Fronts.{same_time}

-- the seconds of a day, of which the parts are told by division
pub of_parts : (passed days rest hour minute second : ℕ) → days ≡ passed / 86400 → rest ≡ passed % 86400 → hour ≡ rest / 3600
    → minute ≡ rest / 60 % 60 → second ≡ rest % 60 → 86400 * days + (3600 * hour + 60 * minute + second) ≡ passed
of_parts passed days rest hour minute second d r h m s = omega arith

-- a date lies in its year
pub day_of_year_below : (t : Time) → IsTime t → days_of_months t.year (t.month - 1) + (t.day - 1) < days_in_year t.year
day_of_year_below t h =
    let a = h.day in
    let b = h.from_day in
    let m = month_ends t.year t.month 12 h.from_month h.month in
    let all = all_months t.year in
    omega arith

pub day_number_below : (t : Time) → IsTime t → day_number t.year t.month t.day < days_before_year (suc t.year)
day_number_below t h = let d = day_of_year_below t h in let n = next_year t.year in omega arith

pub all_years : (y : ℕ) → y < 10000 → days_before_year (suc y) ≤ 3652425
all_years y h = let c = years_closed (suc y) in omega arith

pub seconds_below : (t : Time) → IsTime t → t.second < 60 → seconds t < 315569520000
seconds_below t h s =
    let d = day_number_below t h in
    let y = all_years t.year h.year in
    let a = h.hour in
    let b = h.minute in
    omega arith

earlier_year : (t u : Time) → IsTime t → t.year < u.year → day_number t.year t.month t.day < day_number u.year u.month u.day
earlier_year t u h lt =
    let d = day_of_year_below t h in
    let l = later_year t.year u.year lt in
    omega arith

earlier_month : (t u : Time) → IsTime t → t.year ≡ u.year → t.month < u.month → day_number t.year t.month t.day < day_number u.year u.month u.day
earlier_month t u h same lt =
    let a = h.day in
    let b = h.from_day in
    let m = month_ends t.year t.month (u.month - 1) h.from_month (omega arith) in
    let n : days_of_months t.year (u.month - 1) ≡ days_of_months u.year (u.month - 1) = ap (λ y. days_of_months y (u.month - 1)) same in
    let o : days_before_year t.year ≡ days_before_year u.year = ap days_before_year same in
    omega arith

same_year : (t u : Time) → IsTime t → IsTime u → day_number t.year t.month t.day ≡ day_number u.year u.month u.day → t.year ≡ u.year
same_year t u h k e = elim (cases_order t.year u.year) [
  | inl eq ↦ eq
  | inr s ↦ elim s [
    | inl lt ↦ absurd (let l = earlier_year t u h lt in omega arith)
    | inr gt ↦ absurd (let l = earlier_year u t k gt in omega arith)
  ]
]

same_month : (t u : Time) → IsTime t → IsTime u → day_number t.year t.month t.day ≡ day_number u.year u.month u.day → t.month ≡ u.month
same_month t u h k e = let y = same_year t u h k e in elim (cases_order t.month u.month) [
  | inl eq ↦ eq
  | inr s ↦ elim s [
    | inl lt ↦ absurd (let l = earlier_month t u h y lt in omega arith)
    | inr gt ↦ absurd (let l = earlier_month u t k (sym y) gt in omega arith)
  ]
]

same_day : (t u : Time) → IsTime t → IsTime u → day_number t.year t.month t.day ≡ day_number u.year u.month u.day → t.day ≡ u.day
same_day t u h k e =
    let y = same_year t u h k e in
    let m = same_month t u h k e in
    let a = h.from_day in
    let b = k.from_day in
    let n : days_of_months t.year (t.month - 1) ≡ days_of_months u.year (u.month - 1) =
    ap (λ z. days_of_months z (t.month - 1)) y ∙ ap (λ z. days_of_months u.year (z - 1)) m in
    let o : days_before_year t.year ≡ days_before_year u.year = ap days_before_year y in
    omega arith

clock_below : (hour minute second : ℕ) → hour < 24 → minute < 60 → second < 60 → 3600 * hour + 60 * minute + second < 86400
clock_below hour minute second a b c = omega arith

day_is : (d e r s : ℕ) → r < 86400 → s < 86400 → 86400 * d + r ≡ 86400 * e + s → d ≡ e
day_is d e r s a b h = omega arith

hour_is : (h k m n s t : ℕ) → m < 60 → n < 60 → s < 60 → t < 60 → 3600 * h + 60 * m + s ≡ 3600 * k + 60 * n + t → h ≡ k
hour_is h k m n s t a b c d e = omega arith

minute_is : (m n s t : ℕ) → s < 60 → t < 60 → 60 * m + s ≡ 60 * n + t → m ≡ n
minute_is m n s t a b e = omega arith

-- times of whole seconds, at which as many seconds have passed, are the same
pub seconds_one : (t u : Time) → IsWhole t → IsWhole u → seconds t ≡ seconds u → t ≡ u
seconds_one t u h k e =
    let a = clock_below t.hour t.minute t.second h.time.hour h.time.minute h.second in
    let b = clock_below u.hour u.minute u.second k.time.hour k.time.minute k.second in
    let days = day_is (day_number t.year t.month t.day) (day_number u.year u.month u.day) (3600 * t.hour + 60 * t.minute + t.second)
    (3600 * u.hour + 60 * u.minute + u.second) a b e in
    let clock : 3600 * t.hour + 60 * t.minute + t.second ≡ 3600 * u.hour + 60 * u.minute + u.second = omega arith in
    let hour = hour_is t.hour u.hour t.minute u.minute t.second u.second h.time.minute k.time.minute h.second k.second clock in
    let minutes : 60 * t.minute + t.second ≡ 60 * u.minute + u.second = omega arith in
    let minute = minute_is t.minute u.minute t.second u.second h.second k.second minutes in
    let second : t.second ≡ u.second = omega arith in
    same_time u (same_year t u h.time k.time days) (same_month t u h.time k.time days) (same_day t u h.time k.time days) hour minute second
    (h.nanosecond ∙ sym k.nanosecond)
