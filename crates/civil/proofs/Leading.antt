-- Digits of which the first is told by a division, and the others by what it leaves.
use Rattle.std.proofs.Common.{◌≡◌, ◌≢◌, ℕ, zero, suc, ◌+◌, ◌-◌, ◌*◌, ◌/◌, ◌%◌, ◌^◌, ◌<◌, ◌≤◌}
use Rattle.std.proofs.Common.{min, List, [], ◌∷◌, ◌++◌, length, get_or, drop, refl, sym, ap, ◌∙◌, arith, append_assoc}
use Rattle.std.proofs.Math.Nat.{pow-succ'}
use Rattle.std.proofs.lemmas.Nat.{div_below, mod_below, div-add-mod'}
use Rattle.civil.specs.Octets.{digits}

pub unit_positive : (k : ℕ) → 0 < 10 ^ k
unit_positive zero = omega arith
unit_positive (suc k) = rw pow-succ' (omega (arith, unit_positive k))

pub next_unit : (k : ℕ) → 10 ^ suc k ≡ 10 * 10 ^ k
next_unit k = pow-succ' 10 k

pub first_below : (n k : ℕ) → n < 10 ^ suc k → n / 10 ^ k < 10
first_below n k h = div_below n (10 ^ k) 10 (unit_positive k) (rw next_unit at h)

pub few_digits : (k : ℕ) → k ≤ 9 → 10 ^ k ≤ 1000000000
few_digits zero h = omega arith
few_digits (suc zero) h = omega arith
few_digits (suc (suc zero)) h = omega arith
few_digits (suc (suc (suc zero))) h = omega arith
few_digits (suc (suc (suc (suc zero)))) h = omega arith
few_digits (suc (suc (suc (suc (suc zero))))) h = omega arith
few_digits (suc (suc (suc (suc (suc (suc zero)))))) h = omega arith
few_digits (suc (suc (suc (suc (suc (suc (suc zero))))))) h = omega arith
few_digits (suc (suc (suc (suc (suc (suc (suc (suc zero)))))))) h = omega arith
few_digits (suc (suc (suc (suc (suc (suc (suc (suc (suc zero))))))))) h = omega arith
few_digits (suc (suc (suc (suc (suc (suc (suc (suc (suc (suc k)))))))))) h = absurd (omega arith)

pub digits-none : (k : ℕ) → digits k 0 ≡ []
unfolding digits
digits-none zero = refl
digits-none (suc k) = grind arith

pub digits-some : (k n : ℕ) → n ≢ 0 → digits (suc k) n ≡ (48 + n / 10 ^ k) ∷ digits k (n % 10 ^ k)
unfolding digits
digits-some k n h = grind arith

pub none_is_zero : (count n : ℕ) → n < 10 ^ count → digits count n ≡ [] → 0 ≡ n
none_is_zero zero n lt e = omega arith
none_is_zero (suc k) zero lt e = refl
none_is_zero (suc k) (suc n) lt e = absurd (let one = sym (digits-some k (suc n) (λ z. omega arith)) ∙ e in cc)

pub nothing_is_zero : (count n : ℕ) (w : List ℕ) → length w < 1 → n < 10 ^ count → w ≡ digits count n → 0 ≡ n
nothing_is_zero count n [] short lt e = none_is_zero count n lt (sym e)
nothing_is_zero count n (x ∷ w) short lt e = absurd (omega arith)

-- what the first digit and those behind it come to
pub leading_step : (count n unit digit behind product total : ℕ) (w rest : List ℕ) → 0 < count → count ≤ 9 → 1 ≤ length w → unit ≡ 10 ^ (count - 1)
    → digit ≡ get_or w 0 0 - 48 → ((m : ℕ) → m < 10 ^ (count - 1) → rest ≡ digits (count - 1) m → behind ≡ m) → rest ≡ drop 1 w
    → product ≡ min (digit * unit) 4294967295 → total ≡ min (product + behind) 4294967295 → n < 10 ^ count → w ≡ digits count n → total ≡ n
leading_step zero n unit digit behind product total w rest p few some u d b r pr to lt e = absurd (omega arith)
leading_step (suc k) zero unit digit behind product total w rest p few some u d b r pr to lt e =
    let none : w ≡ [] = e ∙ digits-none (suc k) in
    absurd (let l : length w ≡ 0 = ap length none in omega arith)
leading_step (suc k) (suc n) unit digit behind product total w rest p few some u d b r pr to lt e =
    let back : suc k - 1 ≡ k = omega arith in
    let is : w ≡ (48 + suc n / 10 ^ k) ∷ digits k (suc n % 10 ^ k) = e ∙ digits-some k (suc n) (λ z. omega arith) in
    let first : get_or w 0 0 ≡ 48 + suc n / 10 ^ k = ap (λ l. get_or l 0 0) is in
    let others : rest ≡ digits k (suc n % 10 ^ k) = r ∙ ap (λ l. drop 1 l) is in
    let behind_is : behind ≡ suc n % 10 ^ k = b (suc n % 10 ^ k) (rw back (mod_below (suc n) (10 ^ k) (unit_positive k))) (rw back others) in
    let unit_is : unit ≡ 10 ^ k = u ∙ ap (λ i. 10 ^ i) back in
    let digit_is : digit ≡ suc n / 10 ^ k = omega arith in
    let product_is : digit * unit ≡ suc n / 10 ^ k * 10 ^ k = rw (digit_is, unit_is) refl in
    let all = div-add-mod' (suc n) (10 ^ k) in
    let bound = few_digits (suc k) few in
    omega arith

-- writing: the first digit and those behind it
pub fits_behind : (count n : ℕ) → n ≢ 0 → n < 10 ^ count → 0 < count
fits_behind zero n some lt = absurd (some (omega arith))
fits_behind (suc k) n some lt = omega arith

pub unit_of : (count unit : ℕ) → unit ≡ 10 ^ (count - 1) → 0 < unit
unit_of count unit e = rw e (unit_positive (count - 1))

pub digit_of : (count n unit : ℕ) → n ≢ 0 → n < 10 ^ count → unit ≡ 10 ^ (count - 1) → n / unit < 10
digit_of zero n unit some lt e = absurd (some (omega arith))
digit_of (suc k) n unit some lt e =
    let back : suc k - 1 ≡ k = omega arith in
    rw (e ∙ ap (λ i. 10 ^ i) back) (first_below n k lt)

pub others_of : (count n unit : ℕ) → unit ≡ 10 ^ (count - 1) → n % unit < 10 ^ (count - 1)
others_of count n unit e = rw e (mod_below n (10 ^ (count - 1)) (unit_positive (count - 1)))

pub digits_of : (count n unit : ℕ) (before : List ℕ) → n ≢ 0 → n < 10 ^ count → unit ≡ 10 ^ (count - 1)
    → (before ++ (48 + n / unit) ∷ []) ++ digits (count - 1) (n % unit) ≡ before ++ digits count n
digits_of zero n unit before some lt e = absurd (some (omega arith))
digits_of (suc k) n unit before some lt e =
    let back : suc k - 1 ≡ k = omega arith in
    rw (e ∙ ap (λ i. 10 ^ i) back, back, digits-some k n some) (append_assoc before ((48 + n / 10 ^ k) ∷ []) (digits k (n % 10 ^ k)))
