-- Numbers that no bits mean.
use Rattle.std.proofs.Common.{◌≡◌, ℕ, zero, suc, ◌+◌, ◌-◌, ◌*◌, ◌^◌, ◌<◌, ◌≤◌, ◌%◌, refl}
use Rattle.std.proofs.Common.{sym, ◌∙◌, subst, arith, add-one, pos, ◌+ℤ◌}
use Rattle.std.proofs.Math.Nat.{pow-succ'}
use Rattle.std.proofs.lemmas.Int.{ints}
use Rattle.real.specs.Number.{BinaryNumber}
use Rattle.real.specs.Double.{biased, significand, IsDouble, MeansDouble}
use Rattle.real.specs.declared.value.Real.{Real}
use Rattle.real.specs.declared.value.Real.TheVariants.{Zero, MinusZero, Infinity, MinusInfinity, NotANumber, Binary, Decimal}
use Rattle.real.proofs.Numbers.{twice}

doubling : (m j : ℕ) → m * 2 ^ suc j ≡ 2 * (m * 2 ^ j)
doubling m j = rw (pow-succ' 2 j) (twice m (2 ^ j))

grows : (m q d : ℕ) → m * 2 ^ q ≤ m * 2 ^ (d + q)
grows m q zero = let e : 0 + q ≡ q = omega arith in rw e (omega arith)
grows m q (suc d) =
    let e : suc d + q ≡ suc (d + q) = omega arith in
    let h = grows m q d in
    let g = doubling m (d + q) in
    rw e (omega arith)

pub larger : (m q p : ℕ) → q < p → 2 * (m * 2 ^ q) ≤ m * 2 ^ p
larger m q p h =
    let e : (p - suc q) + suc q ≡ p = omega arith in
    let g : m * 2 ^ suc q ≤ m * 2 ^ p = subst (λ i. m * 2 ^ suc q ≤ m * 2 ^ i) e (grows m (suc q) (p - suc q)) in
    let d = doubling m q in
    omega arith

pub no_less : (m p : ℕ) → m ≤ m * 2 ^ p
no_less m p =
    let e : p + 0 ≡ p = omega arith in
    let g : m * 2 ^ 0 ≤ m * 2 ^ p = subst (λ i. m * 2 ^ 0 ≤ m * 2 ^ i) e (grows m 0 p) in
    omega arith

pub significand_few : (bits : ℕ) → significand bits < 9007199254740992
significand_few bits = grind arith

pub not_wide : (bits : ℕ) (x : BinaryNumber) → IsDouble bits x → 9007199254740992 ≤ x.mantissa → ⊥
not_wide bits x h k =
    let a = significand_few bits in
    let b = h.significand_is in
    let c = no_less x.mantissa h.power in
    omega arith

pub not_large : (bits : ℕ) (x : BinaryNumber) (s place power : ℕ) → IsDouble bits x → x.exponent +ℤ pos 1074 ≡ pos (place + power)
    → s ≡ x.mantissa * 2 ^ power → 4503599627370496 ≤ s → 2045 < place → ⊥
not_large bits x s place power h e is most far =
    let a = significand_few bits in
    let b = h.significand_is in
    let f = h.finite in
    let z : pos (biased bits - 1 + h.power) ≡ pos (place + power) = sym h.exponent_is ∙ e in
    let n : biased bits - 1 + h.power ≡ place + power = omega (arith, ints) in
    let c = larger x.mantissa power h.power (omega arith) in
    omega arith

pub raised_step : (s r x : ℕ) → r ≡ (2 * s) * 2 ^ x → r ≡ s * 2 ^ (x + 1)
raised_step s r x h = rw (add-one, pow-succ' 2 x, twice s (2 ^ x)) (h ∙ omega arith)

pub no_nan : (x : Real) (bits : ℕ) → (x ≡ NotANumber → ⊥) → MeansDouble bits x → bits % 9223372036854775808 ≤ 9218868437227405312
no_nan Zero bits n h = omega arith
no_nan MinusZero bits n h = omega arith
no_nan Infinity bits n h = omega arith
no_nan MinusInfinity bits n h = omega arith
no_nan NotANumber bits n h = absurd (n refl)
no_nan (Binary x) bits n h = let f = h.finite in omega arith
no_nan (Decimal x) bits n h = let f = h.2.finite in omega arith
