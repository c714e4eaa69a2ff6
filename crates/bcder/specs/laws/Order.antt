-- The order of the octets of integers is that of the integers.
use Rattle.std.proofs.Common.{◌≡◌, ℕ, suc, ◌+◌, ◌*◌, ◌^◌, ◌<◌, true, false, List, [], ◌∷◌, length, refl, sym, ap, ◌∙◌, arith, inl, inr}
use Rattle.std.specs.Prelude.{ℤ, pos, negsuc}
use Rattle.std.specs.declared.cmp.Ordering.TheVariants.{Less, Equal, Greater}
use Rattle.std.specs.Ordering.{nat_cmp, int_cmp}
use Rattle.std.specs.Cmp.Lexicographic.{slice_cmp}
use Rattle.std.proofs.lemmas.Bool.{cases_lt, lt-leb, le-leb}
use Rattle.std.proofs.lemmas.Bool.Decides.{nat_tests}
use Rattle.std.proofs.lemmas.Nat.{mul-le}
use Rattle.bcder.specs.x690.Identifier.{AreOctets}
use Rattle.bcder.specs.x690.Length.{big_endian}
use Rattle.bcder.specs.x690.Integer.{Leads, is_negative, same_sign_order, integer_order, OrderOfIntegers}
use Rattle.bcder.specs.laws.Canonical.{big_endian-lt}
use Rattle.bcder.specs.laws.Integers.{Sized, Told, positive, negative, told_by, nearer}

pub cmp_less : (m n : ℕ) → m < n → nat_cmp m n ≡ Less
cmp_less m n l = grind (arith, nat_tests)

pub cmp_greater : (m n : ℕ) → n < m → nat_cmp m n ≡ Greater
cmp_greater m n l = grind (arith, nat_tests)

pub cmp_equal : (m n : ℕ) → m ≡ n → nat_cmp m n ≡ Equal
cmp_equal m n l = grind (arith, nat_tests)

-- octets of one length are compared as the unsigned numbers that they are
same_length_order : (v w : List ℕ) → length v ≡ length w → AreOctets v → AreOctets w
    → slice_cmp nat_cmp v w ≡ nat_cmp (big_endian v) (big_endian w)
same_length_order [] [] l o p = refl
same_length_order [] (b ∷ w) l o p = absurd (omega arith)
same_length_order (a ∷ v) [] l o p = absurd (omega arith)
same_length_order (a ∷ v) (b ∷ w) l o p =
    let len : length v ≡ length w = omega arith in
    let power : 256 ^ length v ≡ 256 ^ length w = ap (λ k. 256 ^ k) len in
    let x = big_endian-lt v (λ i. o (suc i)) in
    let y = big_endian-lt w (λ i. p (suc i)) in
    let again = same_length_order v w len (λ i. o (suc i)) (λ i. p (suc i)) in
    elim (cases_lt a b) [
      | inl less ↦ (
          let m = mul-le (suc a) (256 ^ length w) b (256 ^ length w) less (omega arith) in
          let left : a * 256 ^ length v ≡ a * 256 ^ length w = ap (λ k. a * k) power in
          let below : big_endian (a ∷ v) < big_endian (b ∷ w) = omega (arith, m, x, power, left) in
          rw (cmp_less a b less) (sym (cmp_less _ _ below)))
      | inr other ↦ elim (cases_lt b a) [
        | inl more ↦ (
            let m = mul-le (suc b) (256 ^ length v) a (256 ^ length v) more (omega arith) in
            let left : b * 256 ^ length v ≡ b * 256 ^ length w = ap (λ k. b * k) power in
            let below : big_endian (b ∷ w) < big_endian (a ∷ v) = omega (arith, m, y, power, left) in
            rw (cmp_greater a b more) (sym (cmp_greater _ _ below)))
        | inr same ↦ (
            let e : a ≡ b = omega arith in
            let left : a * 256 ^ length v ≡ b * 256 ^ length w = ap (λ k. k * 256 ^ length v) e ∙ ap (λ k. b * k) power in
            rw (cmp_equal a b e, again) (same_place (a * 256 ^ length v) (b * 256 ^ length w) (big_endian v) (big_endian w) left))
      ]
    ]
  where
    same_place : (x y m n : ℕ) → x ≡ y → nat_cmp m n ≡ nat_cmp (x + m) (y + n)
    same_place x y m n e = grind (arith, nat_tests)

pub int_cmp_pos : (m n : ℕ) → int_cmp (pos m) (pos n) ≡ nat_cmp m n
int_cmp_pos m n = grind (arith, nat_tests)

int_cmp_negsuc : (m n : ℕ) → int_cmp (negsuc m) (negsuc n) ≡ nat_cmp n m
int_cmp_negsuc m n = grind (arith, nat_tests)

pub leads_tested : (w : List ℕ) → Leads false w → is_negative w ≡ false
leads_tested [] l = absurd l
leads_tested (b ∷ w) l = lt-leb 128 b l

pub leads_tested_negative : (w : List ℕ) → Leads true w → is_negative w ≡ true
leads_tested_negative [] l = absurd l
leads_tested_negative (b ∷ w) l = le-leb 128 b l

positives : (m n : ℕ) (v w : List ℕ) → AreOctets v → AreOctets w → Sized m v → Sized n w → big_endian v ≡ m → big_endian w ≡ n
    → same_sign_order false v w ≡ nat_cmp m n
positives m n v w o p s t a b = elim (cases_lt (length v) (length w)) [
  | inl less ↦ rw (cmp_less (length v) (length w) less) (sym (cmp_less m n (nearer m n v w s t less)))
  | inr other ↦ elim (cases_lt (length w) (length v)) [
    | inl more ↦ rw (cmp_greater (length v) (length w) more) (sym (cmp_greater m n (nearer n m w v t s more)))
    | inr same ↦ (
        let l : length v ≡ length w = omega arith in
        rw (cmp_equal (length v) (length w) l, same_length_order v w l o p, a, b) refl)
  ]
]

negatives : (m n : ℕ) (v w : List ℕ) → AreOctets v → AreOctets w → Sized m v → Sized n w → big_endian v + m + 1 ≡ 256 ^ length v
    → big_endian w + n + 1 ≡ 256 ^ length w → same_sign_order true v w ≡ nat_cmp n m
negatives m n v w o p s t a b = elim (cases_lt (length v) (length w)) [
  | inl less ↦ rw (cmp_greater (length w) (length v) less) (sym (cmp_greater n m (nearer m n v w s t less)))
  | inr other ↦ elim (cases_lt (length w) (length v)) [
    | inl more ↦ rw (cmp_less (length w) (length v) more) (sym (cmp_less n m (nearer n m w v t s more)))
    | inr same ↦ (
        let l : length v ≡ length w = omega arith in
        rw (cmp_equal (length w) (length v) (sym l), same_length_order v w l o p)
        (turned (big_endian v) (big_endian w) m n _ _ a b (ap (λ k. 256 ^ k) l)))
  ]
]
  where
    turned : (x y m n a b : ℕ) → x + m + 1 ≡ a → y + n + 1 ≡ b → a ≡ b → nat_cmp x y ≡ nat_cmp n m
    turned x y m n a b e f g = grind (arith, nat_tests)

order_told : (x y : ℤ) (v w : List ℕ) → AreOctets v → AreOctets w → Told v x → Told w y → integer_order v w ≡ int_cmp x y
order_told (pos m) (pos n) v w o p (positive _ l s a) (positive _ k t b) =
    rw (leads_tested v l, leads_tested w k) (positives m n v w o p s t a b ∙ sym (int_cmp_pos m n))
order_told (pos m) (negsuc n) v w o p (positive _ l s a) (negative _ k t b) = rw (leads_tested v l, leads_tested_negative w k) refl
order_told (negsuc m) (pos n) v w o p (negative _ l s a) (positive _ k t b) = rw (leads_tested_negative v l, leads_tested w k) refl
order_told (negsuc m) (negsuc n) v w o p (negative _ l s a) (negative _ k t b) =
    rw (leads_tested_negative v l, leads_tested_negative w k) (negatives m n v w o p s t a b ∙ sym (int_cmp_negsuc m n))

pub order_of_integers : OrderOfIntegers
order_of_integers x y v w o p a b = order_told x y v w o p (told_by x v o a) (told_by y w p b)
