-- Times with the same octets are the same.
use Rattle.std.proofs.Common.{◌≡◌, ℕ, zero, suc, ◌+◌, ◌*◌, ◌/◌, ◌%◌, ◌^◌, ◌<◌, List}
use Rattle.std.proofs.Common.{[], ◌∷◌, ◌++◌, length, get_or, drop, refl, sym, ap, ◌∙◌, arith, length-append}
use Rattle.std.proofs.lemmas.Nat.{mod_below, div-add-mod'}
use Rattle.civil.specs.Time.{Time, IsTime, IsUtcTime}
use Rattle.civil.specs.Octets.{utc_octets, generalized_octets, digits, fraction}
use Rattle.civil.proofs.Leading.{unit_positive, digits-none, digits-some}
use Rattle.civil.proofs.Fronts.{same_time}

two_one : (n m : ℕ) → 48 + n / 10 ≡ 48 + m / 10 → 48 + n % 10 ≡ 48 + m % 10 → n ≡ m
two_one n m a b = omega arith

digits_one : (k n m : ℕ) → n < 10 ^ k → m < 10 ^ k → digits k n ≡ digits k m → n ≡ m
digits_one zero n m p q e = omega arith
digits_one (suc k) zero zero p q e = refl
digits_one (suc k) zero (suc m) p q e = absurd (let x = sym (digits-none (suc k)) ∙ e ∙ digits-some k (suc m) (λ z. omega arith) in cc)
digits_one (suc k) (suc n) zero p q e = absurd (let x = sym (digits-some k (suc n) (λ z. omega arith)) ∙ e ∙ digits-none (suc k) in cc)
digits_one (suc k) (suc n) (suc m) p q e =
    let x = sym (digits-some k (suc n) (λ z. omega arith)) ∙ e ∙ digits-some k (suc m) (λ z. omega arith) in
    let first : 48 + suc n / 10 ^ k ≡ 48 + suc m / 10 ^ k = ap (λ l. get_or l 0 0) x in
    let quotients : suc n / 10 ^ k ≡ suc m / 10 ^ k = omega arith in
    let rests : suc n % 10 ^ k ≡ suc m % 10 ^ k =
    digits_one k (suc n % 10 ^ k) (suc m % 10 ^ k) (mod_below (suc n) (10 ^ k) (unit_positive k)) (mod_below (suc m) (10 ^ k) (unit_positive k))
    (ap (λ l. drop 1 l) x) in
    let products : suc n / 10 ^ k * 10 ^ k ≡ suc m / 10 ^ k * 10 ^ k = ap (λ z. z * 10 ^ k) quotients in
    let one = div-add-mod' (suc n) (10 ^ k) in
    let other = div-add-mod' (suc m) (10 ^ k) in
    omega arith

-- what stands before the last octet
before_last : (v w : List ℕ) → v ++ 90 ∷ [] ≡ w ++ 90 ∷ [] → v ≡ w
before_last [] [] e = refl
before_last [] (x ∷ w) e = absurd (
    let l : 0 ≡ length (w ++ 90 ∷ []) = ap (λ z. length (drop 1 z)) e in
    let k = rw length-append at l in
    omega arith)
before_last (x ∷ v) [] e = absurd (
    let l : length (v ++ 90 ∷ []) ≡ 0 = ap (λ z. length (drop 1 z)) e in
    let k = rw length-append at l in
    omega arith)
before_last (x ∷ v) (y ∷ w) e =
    let first : x ≡ y = ap (λ l. get_or l 0 0) e in
    let others = before_last v w (ap (λ l. drop 1 l) e) in
    rw (first, others) refl

fraction-some : (n : ℕ) → fraction (suc n) ≡ 46 ∷ digits 9 (suc n)
fraction-some n = grind arith

fraction_one : (n m : ℕ) → n < 1000000000 → m < 1000000000 → fraction n ≡ fraction m → n ≡ m
fraction_one zero zero p q e = refl
fraction_one zero (suc m) p q e = absurd (let x = e ∙ fraction-some m in cc)
fraction_one (suc n) zero p q e = absurd (let x = sym (fraction-some n) ∙ e in cc)
fraction_one (suc n) (suc m) p q e =
    let x : 46 ∷ digits 9 (suc n) ≡ 46 ∷ digits 9 (suc m) = sym (fraction-some n) ∙ e ∙ fraction-some m in
    digits_one 9 (suc n) (suc m) (omega arith) (omega arith) (ap (λ l. drop 1 l) x)

pub utc_octets_one : (t u : Time) → IsUtcTime t → IsUtcTime u → utc_octets t ≡ utc_octets u → t ≡ u
unfolding utc_octets
utc_octets_one t u h k e =
    let years = two_one (t.year % 100) (u.year % 100) (ap (λ l. get_or l 0 0) e) (ap (λ l. get_or l 1 0) e) in
    let a = h.from_year in
    let b = h.year in
    let c = k.from_year in
    let d = k.year in
    same_time u (omega arith)
    (two_one t.month u.month (ap (λ l. get_or l 2 0) e) (ap (λ l. get_or l 3 0) e))
    (two_one t.day u.day (ap (λ l. get_or l 4 0) e) (ap (λ l. get_or l 5 0) e))
    (two_one t.hour u.hour (ap (λ l. get_or l 6 0) e) (ap (λ l. get_or l 7 0) e))
    (two_one t.minute u.minute (ap (λ l. get_or l 8 0) e) (ap (λ l. get_or l 9 0) e))
    (two_one t.second u.second (ap (λ l. get_or l 10 0) e) (ap (λ l. get_or l 11 0) e))
    (h.nanosecond ∙ sym k.nanosecond)

pub generalized_octets_one : (t u : Time) → IsTime t → IsTime u → generalized_octets t ≡ generalized_octets u → t ≡ u
unfolding generalized_octets
generalized_octets_one t u h k e =
    let centuries = two_one (t.year / 100) (u.year / 100) (ap (λ l. get_or l 0 0) e) (ap (λ l. get_or l 1 0) e) in
    let years = two_one (t.year % 100) (u.year % 100) (ap (λ l. get_or l 2 0) e) (ap (λ l. get_or l 3 0) e) in
    same_time u (omega arith)
    (two_one t.month u.month (ap (λ l. get_or l 4 0) e) (ap (λ l. get_or l 5 0) e))
    (two_one t.day u.day (ap (λ l. get_or l 6 0) e) (ap (λ l. get_or l 7 0) e))
    (two_one t.hour u.hour (ap (λ l. get_or l 8 0) e) (ap (λ l. get_or l 9 0) e))
    (two_one t.minute u.minute (ap (λ l. get_or l 10 0) e) (ap (λ l. get_or l 11 0) e))
    (two_one t.second u.second (ap (λ l. get_or l 12 0) e) (ap (λ l. get_or l 13 0) e))
    (fraction_one t.nanosecond u.nanosecond h.nanosecond k.nanosecond
    (before_last (fraction t.nanosecond) (fraction u.nanosecond) (ap (λ l. drop 14 l) e)))
