-- Decimal numbers that are binary ones.
use Rattle.std.proofs.Common.{◌≡◌, ℕ, zero, suc, ◌-◌, ◌*◌, ◌/◌, ◌%◌, ◌^◌, ◌<◌, ◌≤◌, refl, sym, ap, ◌∙◌, subst, arith}
use Rattle.std.proofs.Common.{ℤ, pos, negsuc, ◌+ℤ◌, ◌≤ℤ◌, ◌<ℤ◌, Option, Some, None, MatchOption}
use Rattle.std.proofs.Math.Nat.{pow-succ'}
use Rattle.std.proofs.lemmas.Int.{ints}
use Rattle.std.specs.Prelude.{nat_abs}
use Rattle.real.specs.Number.{BinaryNumber, DecimalNumber, IsBinaryNumber, IsFives, IsSame}
use Rattle.real.specs.Double.{IsDouble, MeansDouble}
use Rattle.real.specs.declared.value.Real.{Real}
use Rattle.real.specs.declared.value.Real.TheVariants.{Decimal}
use Rattle.real.proofs.Ones.{odd_one, same_number}

five_times : (m q : ℕ) → m * (5 * q) ≡ 5 * (m * q)
five_times m q = omega arith

pub fives : (m j : ℕ) → m * 5 ^ suc j ≡ 5 * (m * 5 ^ j)
fives m j = rw (pow-succ' 5 j) (five_times m (5 ^ j))

grows : (m p : ℕ) → m ≤ m * 5 ^ p
grows m zero = omega arith
grows m (suc p) = let h = grows m p in let d = fives m p in omega arith

pub times_large : (n k : ℕ) → (k ≡ 0 → ⊥) → 3689348814741910323 < n → 2 ^ 64 ≤ n * 5 ^ k
times_large n zero h l = absurd (h refl)
times_large n (suc k) h l = let e = fives n k in let g = grows n k in omega arith

times_five : (n q : ℕ) → n * 5 * q ≡ 5 * (n * q)
times_five n q = omega arith

pub times_step : (n k : ℕ) → (k ≡ 0 → ⊥) → n * 5 * 5 ^ (k - 1) ≡ n * 5 ^ k
times_step n zero h = absurd (h refl)
times_step n (suc k) h = let e : suc k - 1 ≡ k = omega arith in rw (e, fives n k) (times_five n (5 ^ k))

pub not_over : (n k m : ℕ) → (k ≡ 0 → ⊥) → (n % 5 ≡ 0 → ⊥) → n ≡ m * 5 ^ k → ⊥
not_over n zero m h r e = h refl
not_over n (suc k) m h r e = let f = fives m k in r (omega arith)

pub over_step : (n k m : ℕ) → (k ≡ 0 → ⊥) → n % 5 ≡ 0 → n / 5 ≡ m * 5 ^ (k - 1) → n ≡ m * 5 ^ k
over_step n zero m h r e = absurd (h refl)
over_step n (suc k) m h r e =
    let b : suc k - 1 ≡ k = omega arith in
    let f = fives m k in
    let g = rw b at e in
    omega arith

pub over_back : (n k m : ℕ) → (k ≡ 0 → ⊥) → n ≡ m * 5 ^ k → n / 5 ≡ m * 5 ^ (k - 1)
over_back n zero m h e = absurd (h refl)
over_back n (suc k) m h e =
    let b : suc k - 1 ≡ k = omega arith in
    let f = fives m k in
    rw b (omega arith)

pub over_is : (r : Option ℕ) (n k : ℕ) → (k ≡ 0 → ⊥) → n % 5 ≡ 0
    → MatchOption r ((m : ℕ) → n / 5 ≡ m * 5 ^ (k - 1) → ⊥) (λ r. n / 5 ≡ r * 5 ^ (k - 1))
    → MatchOption r ((m : ℕ) → n ≡ m * 5 ^ k → ⊥) (λ r. n ≡ r * 5 ^ k)
over_is None n k z d h = λ m e. h m (over_back n k m z e)
over_is (Some r) n k z d h = over_step n k r z d h

pub fives_odd : (m k : ℕ) → m % 2 ≡ 1 → (m * 5 ^ k) % 2 ≡ 1
fives_odd m zero h = omega arith
fives_odd m (suc k) h = let e = fives m k in let i = fives_odd m k h in omega arith

odd_from : (m k : ℕ) → (m * 5 ^ k) % 2 ≡ 1 → m % 2 ≡ 1
odd_from m zero h = omega arith
odd_from m (suc k) h = let e = fives m k in odd_from m k (omega arith)

fives_cancel : (m n k : ℕ) → m * 5 ^ k ≡ n * 5 ^ k → m ≡ n
fives_cancel m n zero h = omega arith
fives_cancel m n (suc k) h = let e = fives m k in let f = fives n k in fives_cancel m n k (omega arith)

swapped : (a b c : ℕ) → a * b * c ≡ a * c * b
swapped a b c = omega arith

-- the whole number, from what each way gives
pub times_is : (r : Option ℕ) (m : ℕ) (e : ℤ) → pos 0 ≤ℤ e → m % 2 ≡ 1 → MatchOption r (2 ^ 64 ≤ m * 5 ^ nat_abs e) (λ r. r ≡ m * 5 ^ nat_abs e)
    → MatchOption r ((n : ℕ) → n < 2 ^ 64 → IsFives m e n → ⊥) (λ r. IsFives m e r × (r % 2 ≡ 1))
times_is r m (negsuc k) l o h = absurd (omega (arith, ints))
times_is None m (pos k) l o h = λ n b f. omega arith
times_is (Some r) m (pos k) l o h = (sym h, subst (λ r. r % 2 ≡ 1) (sym h) (fives_odd m k o))

pub over_odd : (r : Option ℕ) (m : ℕ) (e : ℤ) → e <ℤ pos 0 → m % 2 ≡ 1
    → MatchOption r ((n : ℕ) → m ≡ n * 5 ^ nat_abs e → ⊥) (λ r. m ≡ r * 5 ^ nat_abs e)
    → MatchOption r ((n : ℕ) → n < 2 ^ 64 → IsFives m e n → ⊥) (λ r. IsFives m e r × (r % 2 ≡ 1))
over_odd r m (pos k) l o h = absurd (omega (arith, ints))
over_odd None m (negsuc k) l o h = λ n b f. h n f
over_odd (Some r) m (negsuc k) l o h = (h, odd_from r (suc k) (subst (λ m. m % 2 ≡ 1) h o))

-- with the power of two taken out of the mantissa
pub fives_one : (m n j k : ℕ) (e : ℤ) → m % 2 ≡ 1 → n % 2 ≡ 1 → IsFives (m * 2 ^ j) e (n * 2 ^ k) → IsFives m e n × (j ≡ k)
fives_one m n j k (pos i) p q h = odd_one (m * 5 ^ i) n j k (fives_odd m i p) q (swapped m (5 ^ i) (2 ^ j) ∙ h)
fives_one m n j k (negsuc i) p q h =
    odd_one m (n * 5 ^ suc i) j k p (fives_odd n (suc i) q) (h ∙ swapped n (2 ^ k) (5 ^ suc i))

pub fives_made : (m n j : ℕ) (e : ℤ) → IsFives m e n → IsFives (m * 2 ^ j) e (n * 2 ^ j)
fives_made m n j (pos i) h = swapped m (2 ^ j) (5 ^ i) ∙ ap (λ n. n * 2 ^ j) h
fives_made m n j (negsuc i) h = ap (λ m. m * 2 ^ j) h ∙ swapped n (5 ^ suc i) (2 ^ j)

fives_same : (m a b : ℕ) (e : ℤ) → IsFives m e a → IsFives m e b → a ≡ b
fives_same m a b (pos i) h k = sym h ∙ k
fives_same m a b (negsuc i) h k = fives_cancel a b (suc i) (sym h ∙ k)

pub same_one : (x : DecimalNumber) (y z : BinaryNumber) → IsSame x y → IsSame x z → y ≡ z
same_one x y z h k =
    let e = fives_same x.mantissa (y.mantissa * 2 ^ h.power) (z.mantissa * 2 ^ k.power) x.exponent h.mantissa k.mantissa in
    let o = odd_one y.mantissa z.mantissa h.power k.power h.held.odd k.held.odd e in
    same_number y z (h.sign ∙ sym k.sign) o.0 (h.exponent ∙ ap (λ p. x.exponent +ℤ pos p) o.1 ∙ sym k.exponent)

-- what is left of the mantissa without the power of two is that of the binary number
pub fives_of : (x : DecimalNumber) (y : BinaryNumber) (m j : ℕ) → x.mantissa ≡ m * 2 ^ j → m % 2 ≡ 1 → (h : IsSame x y)
    → IsFives m x.exponent y.mantissa × (j ≡ h.power)
fives_of x y m j e o h =
    fives_one m y.mantissa j h.power x.exponent o h.held.odd (subst (λ m. IsFives m x.exponent (y.mantissa * 2 ^ h.power)) e h.mantissa)

pub same_made : (x : DecimalNumber) (y : BinaryNumber) (m n j : ℕ) → x.mantissa ≡ m * 2 ^ j → IsFives m x.exponent n → y.mantissa ≡ n
    → y.negative ≡ x.negative → y.exponent ≡ x.exponent +ℤ pos j → IsBinaryNumber y → IsSame x y
same_made x y m n j e f k s z h =
    let g = fives_made m n j x.exponent f in
    let p = subst (λ m. IsFives m x.exponent (n * 2 ^ j)) (sym e) g in
    record { sign = s; power = j; mantissa = subst (λ n. IsFives x.mantissa x.exponent (n * 2 ^ j)) (sym k) p; exponent = z; held = h }

pub double_is : (r : Option ℕ) (x : DecimalNumber) (y : BinaryNumber) → IsSame x y
    → MatchOption r ((bits : ℕ) → IsDouble bits y → ⊥) (λ bits. IsDouble bits y)
    → MatchOption r ((bits : ℕ) (z : BinaryNumber) → IsSame x z → IsDouble bits z → ⊥) (λ bits. (z : BinaryNumber) × IsSame x z × IsDouble bits z)
double_is None x y s h = λ bits z k d. h bits (subst (IsDouble bits) (sym (same_one x y z s k)) d)
double_is (Some bits) x y s h = (y, s, h)

pub means_is : (r : Option ℕ) (v : Real) (x : DecimalNumber) → v ≡ Decimal x
    → MatchOption r ((bits : ℕ) (z : BinaryNumber) → IsSame x z → IsDouble bits z → ⊥) (λ bits. (z : BinaryNumber) × IsSame x z × IsDouble bits z)
    → MatchOption r ((bits : ℕ) → MeansDouble bits v → ⊥) (λ bits. MeansDouble bits v)
means_is None v x e h = rw e (λ bits d. h bits d.0 d.1 d.2)
means_is (Some bits) v x e h = rw e h
