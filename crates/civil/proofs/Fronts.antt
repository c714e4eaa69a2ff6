-- What is behind the first octets of a list, and that a time is its parts.
use Rattle.std.proofs.Common.{◌≡◌, ℕ, ◌-◌, ◌<◌, List, ◌∷◌, length, take, drop, refl, ap, arith, ◌∙◌}
use Rattle.std.proofs.lemmas.Grind.{common_steps}
use Rattle.civil.specs.Time.{Time, IsTime}

pub behind_front : {a b c d e f g h i j k l m n : ℕ} (w rest : List ℕ)
    → w ≡ a ∷ b ∷ c ∷ d ∷ e ∷ f ∷ g ∷ h ∷ i ∷ j ∷ k ∷ l ∷ m ∷ n ∷ rest → take (length w - 14) (drop 14 w) ≡ rest
behind_front w rest is = ap (λ z. take (length z - 14) (drop 14 z)) is ∙ grind (arith, common_steps)

pub same_time : (t : Time) {year month day hour minute second nanosecond : ℕ} → year ≡ t.year → month ≡ t.month → day ≡ t.day → hour ≡ t.hour
    → minute ≡ t.minute → second ≡ t.second → nanosecond ≡ t.nanosecond
    → ◌≡◌ {A = Time} (record { year = year; month = month; day = day; hour = hour; minute = minute; second = second; nanosecond = nanosecond }) t
same_time t a b c d e f g = rw (a, b, c, d, e, f, g) refl

pub day_below : (t : Time) → IsTime t → t.day < 100
day_below t h = let d = h.day in grind arith
