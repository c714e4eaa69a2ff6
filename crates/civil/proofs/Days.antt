-- How days before years and months are counted.
use Rattle.std.proofs.Common.{◌≡◌, ℕ, zero, suc, ◌+◌, ◌-◌, ◌*◌, ◌/◌, ◌<◌, ◌≤◌, refl, sym, ap, ◌∙◌, arith, add-one}
use Rattle.civil.specs.Calendar.{days_in_month, days_in_year, days_before_year, days_of_months}

pub days_in_month_bounds : (y m : ℕ) → (28 ≤ days_in_month y m) × (days_in_month y m ≤ 31)
days_in_month_bounds y m = grind arith

-- the days of a year, by quotients of the next one
leap_step : (y : ℕ) → days_in_year y + (y + 100) / 100 + (y + 3) / 4 + (y + 399) / 400 ≡ 365 + (y + 4) / 4 + (y + 400) / 400 + (y + 99) / 100
leap_step y = grind arith

pub years_closed : (y : ℕ) → days_before_year y + (y + 99) / 100 ≡ 365 * y + (y + 3) / 4 + (y + 399) / 400
unfolding days_before_year
years_closed zero = refl
years_closed (suc y) = let before = years_closed y in let step = leap_step y in omega arith

pub next_year : (y : ℕ) → days_before_year (suc y) ≡ days_before_year y + days_in_year y
unfolding days_before_year
next_year y = refl

pub next_month : (y n : ℕ) → days_of_months y (suc n) ≡ days_of_months y n + days_in_month y (suc n)
unfolding days_of_months
next_month y n = refl

pub no_months : (y : ℕ) → days_of_months y 0 ≡ 0
unfolding days_of_months
no_months y = refl

pub all_months : (y : ℕ) → days_of_months y 12 ≡ days_in_year y
unfolding days_of_months
all_months y = grind arith

-- one month more
pub next_month_at : (y n days d : ℕ) → days ≡ days_of_months y n → d ≡ days_in_month y (n + 1) → days + d ≡ days_of_months y (n + 1)
next_month_at y n days d a b =
    let one : n + 1 ≡ suc n = add-one n in
    rw one (let c : d ≡ days_in_month y (suc n) = b ∙ ap (λ z. days_in_month y z) one in let e = next_month y n in omega arith)

pub months_step : (y m rest days day : ℕ) → 1 ≤ m → days ≡ days_in_month y m → days ≤ rest → days_of_months y (m - 1) + rest ≡ day
    → days_of_months y (m + 1 - 1) + (rest - days) ≡ day
months_step y zero rest days day p d le e = absurd (omega arith)
months_step y (suc k) rest days day p d le e =
    let back : suc k - 1 ≡ k = omega arith in
    let same : suc k + 1 - 1 ≡ suc k = omega arith in
    let f : days_of_months y k + rest ≡ day = ap (λ z. days_of_months y z + rest) (sym back) ∙ e in
    let n = next_month y k in
    rw same (omega arith)

pub last_month : (y m rest day : ℕ) → m ≡ 12 → days_of_months y (m - 1) + rest ≡ day → day < days_in_year y → rest < 31
last_month y m rest day is e below =
    let back : m - 1 ≡ 11 = omega arith in
    let f : days_of_months y 11 + rest ≡ day = ap (λ z. days_of_months y z + rest) (sym back) ∙ e in
    let n : days_of_months y 12 ≡ days_of_months y 11 + 31 = next_month y 11 in
    let all = all_months y in
    omega arith

-- what a quotient tells of the year of a day
pub year_above : (day g : ℕ) → g ≡ (400 * day + 396) / 146097 → day < days_before_year (g + 1)
year_above day g e = let c = years_closed (g + 1) in omega arith

pub year_below : (day g : ℕ) → g ≡ (400 * day + 396) / 146097 → 1 ≤ g → days_before_year (g - 1) ≤ day
year_below day zero e p = absurd (omega arith)
year_below day (suc k) e p =
    let back : suc k - 1 ≡ k = omega arith in
    let c = years_closed k in
    rw back (omega arith)

pub some_year : (day g : ℕ) → day < days_before_year g → 1 ≤ g
unfolding days_before_year
some_year day zero h = absurd (omega arith)
some_year day (suc k) h = omega arith

pub year_again : (day g : ℕ) → 1 ≤ g → day < days_before_year g → day < days_before_year (g - 1 + 1)
year_again day g p h = let same : g - 1 + 1 ≡ g = omega arith in rw same h

-- years and months that begin later
pub years_grow : (y k : ℕ) → days_before_year y ≤ days_before_year (k + y)
years_grow y zero = let same : 0 + y ≡ y = omega arith in rw same (omega arith)
years_grow y (suc k) =
    let next : suc k + y ≡ suc (k + y) = omega arith in
    let before = years_grow y k in
    let n = next_year (k + y) in
    rw next (omega arith)

pub later_year : (y z : ℕ) → y < z → days_before_year y + days_in_year y ≤ days_before_year z
later_year y z h =
    let same : z - suc y + suc y ≡ z = omega arith in
    let grown = years_grow (suc y) (z - suc y) in
    let n = next_year y in
    let g : days_before_year (suc y) ≤ days_before_year z = rw same at grown in
    omega arith

pub months_grow : (y n k : ℕ) → days_of_months y n ≤ days_of_months y (k + n)
months_grow y n zero = let same : 0 + n ≡ n = omega arith in rw same (omega arith)
months_grow y n (suc k) =
    let next : suc k + n ≡ suc (k + n) = omega arith in
    let before = months_grow y n k in
    let m = next_month y (k + n) in
    rw next (omega arith)

-- the last day of a month comes before each later month
pub month_ends : (y m n : ℕ) → 1 ≤ m → m ≤ n → days_of_months y (m - 1) + days_in_month y m ≤ days_of_months y n
month_ends y zero n p h = absurd (omega arith)
month_ends y (suc k) n p h =
    let back : suc k - 1 ≡ k = omega arith in
    let same : n - suc k + suc k ≡ n = omega arith in
    let g : days_of_months y (suc k) ≤ days_of_months y n = rw same at (months_grow y (suc k) (n - suc k)) in
    let m = next_month y k in
    rw back (omega arith)

pub year_few : (y : ℕ) → days_in_year y ≤ 366
year_few y = grind arith

-- a day that lies in a year comes early in it
pub year_room : (y day : ℕ) → day < days_before_year (y + 1) → days_before_year y ≤ day → day - days_before_year y < days_in_year y
year_room y day h from =
    let one : days_before_year (y + 1) ≡ days_before_year (suc y) = ap days_before_year (add-one y) in
    let n = next_year y in
    omega arith
