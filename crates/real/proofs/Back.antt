-- The octets that are written mean the value.
use Rattle.std.proofs.Common.{◌≡◌, ℕ, zero, suc, ◌+◌, ◌-◌, ◌*◌, ◌/◌, ◌%◌, ◌^◌, ◌<◌, ◌≤◌, Bool, true, false, ◌==◌, if◌then◌else◌, nat_le}
use Rattle.std.proofs.Common.{List, [], ◌∷◌, ◌++◌, length, map, refl, sym, append_assoc, ap, ◌∙◌, subst, arith, Some, inl, inr}
use Rattle.std.proofs.Common.{ℤ, pos, negsuc, ◌+ℤ◌, ◌-ℤ◌, ◌*ℤ◌, w32, FitsSigned, length-append}
use Rattle.std.proofs.Math.Nat.{pow-succ'}
use Rattle.std.proofs.Math.Seq.{take-append_seam, drop-append_seam}
use Rattle.std.proofs.lemmas.Bool.{cases_lt, ne_eqb}
use Rattle.std.proofs.lemmas.Int.{ints}
use Rattle.std.proofs.lemmas.List.{append-nil, length-map}
use Rattle.std.proofs.lemmas.Int.Digits.{all_below_base_digits_of, number_digits_of, length-digits_of_step}
use Rattle.std.specs.Int.Digits.{digits_of, number_from_digits_after, AllBelowBase}
use Rattle.std.specs.Int.{complement_if}
use Rattle.real.specs.Number.{BinaryNumber, IsBinaryNumber, DecimalNumber, IsDecimalNumber}
use Rattle.real.specs.Decimal.{AreDigits, number_from, number, digits, minus, scale_octets, decimal_octets, IsSign, IsExponent, IsScale}
use Rattle.real.specs.Octets.{unsigned_from, unsigned, signed, cut, is_smallest, parts, big_endian}
use Rattle.real.specs.Octets.{octet, complement, exponent_len, with_len, binary_octets, binary_octets_of, exponent_octets}
use Rattle.real.specs.Contents.{IsBinary, MeansBinary, MeansDecimal, Means, IsReal, IsHeld, real_octets}
use Rattle.real.specs.declared.value.Real.{Real}
use Rattle.real.specs.declared.value.Real.TheVariants.{Zero, MinusZero, Infinity, MinusInfinity, NotANumber, Binary, Decimal}
use Rattle.real.proofs.Numbers.{big_endian-some, signed_positive, signed_negative}
use Rattle.real.proofs.Texts.{digit_from}
use Rattle.real.proofs.Ones.{Parts}

-- ---- the mantissa

unsigned_last : (n b : ℕ) (w : List ℕ) → unsigned_from n (w ++ b ∷ []) ≡ unsigned_from n w * 256 + b
unsigned_last n b [] = refl
unsigned_last n b (x ∷ w) = unsigned_last (n * 256 + x) b w

pub big_endian_back : (k n : ℕ) → n < 256 ^ k → unsigned (big_endian k n) ≡ n
big_endian_back zero n h = omega arith
big_endian_back (suc k) zero h = refl
big_endian_back (suc k) (suc n) h =
    let p = pow-succ' 256 k in
    let i = big_endian_back k (suc n / 256) (omega arith) in
    rw (big_endian-some k (suc n) (λ z. omega arith), unsigned_last 0 (suc n % 256) (big_endian k (suc n / 256)), i) (omega arith)

-- ---- the exponent

pub cut_front : (n : ℕ) (v w : List ℕ) → n ≡ length v → cut n (v ++ w) ≡ (let s : Parts = Some (v, w) in s)
cut_front n v w e =
    let l = length-append v w in
    let le : nat_le n (length (v ++ w)) ≡ true = grind arith in
    rw (le, e, take-append_seam v w, drop-append_seam v w) refl

below_zero : (u n p : ℕ) → u + n + 1 ≡ p → pos u -ℤ pos p ≡ negsuc n
below_zero u n p e = omega (arith, ints)

turned1 : (n : ℕ) → n < 128 → unsigned (complement true 1 n) + n + 1 ≡ 256 ^ 1
turned1 n h = omega arith

turned2 : (n : ℕ) → n < 32768 → unsigned (complement true 2 n) + n + 1 ≡ 256 ^ 2
turned2 n h = omega arith

turned3 : (n : ℕ) → n < 8388608 → unsigned (complement true 3 n) + n + 1 ≡ 256 ^ 3
turned3 n h = omega arith

turned4 : (n : ℕ) → n < 2147483648 → unsigned (complement true 4 n) + n + 1 ≡ 256 ^ 4
turned4 n h = omega arith

pub signed1 : (below : Bool) (n : ℕ) → n < 128 → signed (complement below 1 n) ≡ complement_if below n
signed1 false n h = signed_positive (complement false 1 n) (omega arith) (omega arith) ∙ ap pos (omega arith)
signed1 true n h = signed_negative (complement true 1 n) (omega arith) (omega arith) ∙ below_zero _ n _ (turned1 n h)

pub signed2 : (below : Bool) (n : ℕ) → n < 32768 → signed (complement below 2 n) ≡ complement_if below n
signed2 false n h = signed_positive (complement false 2 n) (omega arith) (omega arith) ∙ ap pos (omega arith)
signed2 true n h = signed_negative (complement true 2 n) (omega arith) (omega arith) ∙ below_zero _ n _ (turned2 n h)

pub signed3 : (below : Bool) (n : ℕ) → n < 8388608 → signed (complement below 3 n) ≡ complement_if below n
signed3 false n h = signed_positive (complement false 3 n) (omega arith) (omega arith) ∙ ap pos (omega arith)
signed3 true n h = signed_negative (complement true 3 n) (omega arith) (omega arith) ∙ below_zero _ n _ (turned3 n h)

pub signed4 : (below : Bool) (n : ℕ) → n < 2147483648 → signed (complement below 4 n) ≡ complement_if below n
signed4 false n h = signed_positive (complement false 4 n) (omega arith) (omega arith) ∙ ap pos (omega arith)
signed4 true n h = signed_negative (complement true 4 n) (omega arith) (omega arith) ∙ below_zero _ n _ (turned4 n h)

smallest : (a b : ℕ) (w : List ℕ) → (a ≡ 0 → 128 ≤ b) → (a ≡ 255 → b < 128) → is_smallest (a ∷ b ∷ w) ≡ true
smallest a b w h k = grind arith

smallest4 : (below : Bool) (n : ℕ) → 8388608 ≤ n → n < 2147483648 → is_smallest (complement below 4 n) ≡ true
smallest4 false n h k =
    smallest (octet false (n / 256 / 256 / 256)) (octet false (n / 256 / 256)) (octet false (n / 256) ∷ octet false n ∷ []) (λ e. omega arith)
    (λ e. omega arith)
smallest4 true n h k =
    smallest (octet true (n / 256 / 256 / 256)) (octet true (n / 256 / 256)) (octet true (n / 256) ∷ octet true n ∷ []) (λ e. omega arith)
    (λ e. omega arith)

parts1 : (below : Bool) (n : ℕ) (w : List ℕ) → parts 0 (complement below 1 n ++ w) ≡ (let s : Parts = Some (complement below 1 n, w) in s)
parts1 below n w = cut_front 1 (complement below 1 n) w refl

parts2 : (below : Bool) (n : ℕ) (w : List ℕ) → parts 1 (complement below 2 n ++ w) ≡ (let s : Parts = Some (complement below 2 n, w) in s)
parts2 below n w = cut_front 2 (complement below 2 n) w refl

parts3 : (below : Bool) (n : ℕ) (w : List ℕ) → parts 2 (complement below 3 n ++ w) ≡ (let s : Parts = Some (complement below 3 n, w) in s)
parts3 below n w = cut_front 3 (complement below 3 n) w refl

parts4 : (below : Bool) (n : ℕ) (w : List ℕ) → 8388608 ≤ n → n < 2147483648
    → parts 3 (4 ∷ complement below 4 n ++ w) ≡ (let s : Parts = Some (complement below 4 n, w) in s)
parts4 below n w h k = rw (smallest4 below n h k) (cut_front 4 (complement below 4 n) w refl)

-- ---- the first octet

sign_back : (b : Bool) (k : ℕ) → k < 4 → b ≡ ((128 + (if b then 64 else 0) + k) / 64 % 2 == 1)
sign_back true k h = let e : (128 + 64 + k) / 64 % 2 ≡ 1 = omega arith in rw e refl
sign_back false k h = let e : (128 + 0 + k) / 64 % 2 ≡ 0 = omega arith in rw e refl

record FirstOctet (f k : ℕ) : Type 0 where
  binary : 128 ≤ f
  base : f / 16 % 4 ≡ 0
  form : f % 4 ≡ k
  scale : f / 4 % 4 ≡ 0

first_octet : (b : Bool) (k : ℕ) → k < 4 → FirstOctet (128 + (if b then 64 else 0) + k) k
first_octet true k h = record { binary = omega arith; base = omega arith; form = omega arith; scale = omega arith }
first_octet false k h = record { binary = omega arith; base = omega arith; form = omega arith; scale = omega arith }

unscaled : (z : ℤ) (k : ℕ) → k ≡ 0 → z ≡ (z *ℤ pos 1) +ℤ pos (k + 0)
unscaled z k e = omega (arith, ints)

read_from : (x : BinaryNumber) (below : Bool) (n k : ℕ) (w e : List ℕ) → IsBinaryNumber x → complement_if below n ≡ x.exponent → k < 4
    → length e ≤ 4 → signed e ≡ complement_if below n → parts k w ≡ (let s : Parts = Some (e, big_endian 8 x.mantissa) in s)
    → IsBinary (128 + (if x.negative then 64 else 0) + k) w x
read_from x below n k w e h is small few s p =
    let f = first_octet x.negative k small in
    let m = big_endian_back 8 x.mantissa h.mantissa in
    record {
      binary = f.binary;
      sign = sign_back x.negative k small;
      base = 1;
      is_base = inl (f.base, refl);
      exponent = e;
      mantissa = big_endian 8 x.mantissa;
      parts = rw f.form p;
      few = few;
      below = rw m h.mantissa;
      power = 0;
      mantissa_is = m ∙ omega arith;
      exponent_is = rw (s, is) (unscaled x.exponent _ f.scale);
      held = h;
    }

one_len : (n : ℕ) → n < 128 → 1 ≡ exponent_len n
one_len n h = grind arith

two_len : (n : ℕ) → 128 ≤ n → n < 32768 → 2 ≡ exponent_len n
two_len n h k = grind arith

three_len : (n : ℕ) → 32768 ≤ n → n < 8388608 → 3 ≡ exponent_len n
three_len n h k = grind arith

four_len : (n : ℕ) → 8388608 ≤ n → 4 ≡ exponent_len n
four_len n h = grind arith

abbrev HasBits : ℤ → Type 0
HasBits (pos n) = n < 2147483648
HasBits (negsuc n) = n < 2147483648

has_bits : (z : ℤ) → FitsSigned w32 z → HasBits z
has_bits (pos n) h = omega (arith, ints)
has_bits (negsuc n) h = omega (arith, ints)

pub back_at : (x : BinaryNumber) (below : Bool) (n : ℕ) → IsBinaryNumber x → complement_if below n ≡ x.exponent → n < 2147483648
    → MeansBinary (binary_octets_of x.negative below n x.mantissa) x
back_at x below n h e b =
    let P : ℕ → Type 0 = λ k.
    MeansBinary ((128 + (if x.negative then 64 else 0) + (k - 1)) ∷ with_len k (complement below k n) ++ big_endian 8 x.mantissa) x in
    elim (cases_lt n 128) [
      | inl a ↦ subst P (one_len n a)
          (read_from x below n 0 _ (complement below 1 n) h e (omega arith) (omega arith) (signed1 below n a) (parts1 below n _))
      | inr a ↦ elim (cases_lt n 32768) [
        | inl c ↦ subst P (two_len n a c)
            (read_from x below n 1 _ (complement below 2 n) h e (omega arith) (omega arith) (signed2 below n c) (parts2 below n _))
        | inr c ↦ elim (cases_lt n 8388608) [
          | inl d ↦ subst P (three_len n c d)
              (read_from x below n 2 _ (complement below 3 n) h e (omega arith) (omega arith) (signed3 below n d) (parts3 below n _))
          | inr d ↦ subst P (four_len n d)
              (read_from x below n 3 _ (complement below 4 n) h e (omega arith) (omega arith) (signed4 below n b) (parts4 below n _ d b))
        ]
      ]
    ]

exponent_back : (x : BinaryNumber) (z : ℤ) → IsBinaryNumber x → z ≡ x.exponent → HasBits z → MeansBinary (exponent_octets x.negative z x.mantissa) x
exponent_back x (pos n) h e b = back_at x false n h e b
exponent_back x (negsuc n) h e b = back_at x true n h e b

pub binary_back : (x : BinaryNumber) → IsBinaryNumber x → MeansBinary (binary_octets x) x
unfolding binary_octets
binary_back x h = exponent_back x x.exponent h refl (has_bits x.exponent h.exponent)

-- ---- decimal numbers

number_back : (n : ℕ) (ds : List ℕ) → number_from n (map (λ d. 0x30 + d) ds) ≡ number_from_digits_after 10 n ds
number_back n [] = refl
number_back n (d ∷ ds) =
    let e : n * 10 + (0x30 + d - 0x30) ≡ n * 10 + d = omega arith in
    ap (λ m. number_from m (map (λ d. 0x30 + d) ds)) e ∙ number_back (n * 10 + d) ds

are_digits_back : (ds : List ℕ) → AllBelowBase 10 ds → AreDigits (map (λ d. 0x30 + d) ds)
are_digits_back [] h = tt
are_digits_back (d ∷ ds) h = (digit_from (0x30 + d) (omega arith) (let l = h.0 in omega arith), are_digits_back ds h.1)

are_digits : (n : ℕ) → AreDigits (digits n)
are_digits n = are_digits_back (digits_of 10 n) (all_below_base_digits_of 10 n (omega arith))

number_is : (n : ℕ) → number (digits n) ≡ n
number_is n = number_back 0 (digits_of 10 n) ∙ number_digits_of 10 n (omega arith)

some_digits : (n : ℕ) → 0 < n → 1 ≤ length (digits n)
some_digits n h = omega (arith, length-map (digits_of 10 n) (λ d. 0x30 + d), length-digits_of_step 10 n (omega arith) h)

exponent_of : (n : ℕ) → 0 < n → n < 2 ^ 32 → IsExponent (digits n) n
exponent_of n h k = record { are_digits = are_digits n; some = some_digits n h; value = sym (number_is n); below = k }

minus_sign : (b : Bool) → IsSign (minus b) b
minus_sign true = refl
minus_sign false = inl refl

scale_some : (n : ℕ) → 0 < n → n < 2 ^ 32 → IsScale (0x45 ∷ digits n) (pos n)
scale_some n h k =
    record {
      letter = 0x45;
      is_letter = inl refl;
      sign = [];
      digits = digits n;
      octets = refl;
      negative = false;
      is_sign = inl refl;
      size = n;
      is_exponent = exponent_of n h k;
      value = refl;
    }

scale_none : IsScale (0x45 ∷ 0x2B ∷ 0x30 ∷ []) (pos 0)
scale_none =
    record {
      letter = 0x45;
      is_letter = inl refl;
      sign = 0x2B ∷ [];
      digits = 0x30 ∷ [];
      octets = refl;
      negative = false;
      is_sign = inr refl;
      size = 0;
      is_exponent = record { are_digits = (refl, tt); some = omega arith; value = refl; below = omega arith };
      value = refl;
    }

scale_is : (n : ℕ) → (n == 0) ≡ false → digits n ≡ scale_octets (pos n)
scale_is n e = rw e refl

scale_back : (z : ℤ) → HasBits z → IsScale (0x45 ∷ scale_octets z) z
scale_back (pos zero) h = scale_none
scale_back (pos (suc n)) h =
    subst (λ w. IsScale (0x45 ∷ w) (pos (suc n))) (scale_is (suc n) (ne_eqb (suc n) 0 (λ e. omega arith)))
    (scale_some (suc n) (omega arith) (omega arith))
scale_back (negsuc n) h =
    record {
      letter = 0x45;
      is_letter = inl refl;
      sign = 0x2D ∷ [];
      digits = digits (n + 1);
      octets = refl;
      negative = true;
      is_sign = refl;
      size = n + 1;
      is_exponent = exponent_of (n + 1) (omega arith) (omega arith);
      value = omega (arith, ints);
    }

pub decimal_back : (x : DecimalNumber) → IsDecimalNumber x → MeansDecimal (decimal_octets x) x
unfolding decimal_octets
decimal_back x h =
    record {
      spaces = 0;
      sign = minus x.negative;
      whole = digits x.mantissa;
      tail = 0x2E ∷ 0x45 ∷ scale_octets x.exponent;
      octets = append_assoc (minus x.negative) (digits x.mantissa) (0x2E ∷ 0x45 ∷ scale_octets x.exponent);
      is_sign = minus_sign x.negative;
      are_digits = are_digits x.mantissa;
      fraction = [];
      scale = x.exponent;
      is_tail = inr (record {
        mark = 0x2E;
        is_mark = inl refl;
        scale = 0x45 ∷ scale_octets x.exponent;
        octets = refl;
        are_digits = tt;
        is_scale = inr (refl, scale_back x.exponent (has_bits x.exponent h.exponent));
      });
      power = 0;
      mantissa_is = ap number (append-nil (digits x.mantissa)) ∙ number_is x.mantissa ∙ omega arith;
      exponent_is = refl;
      held = h;
    }

means_back : (x : Real) → IsHeld x → Means (real_octets x) x
means_back Zero h = refl
means_back Infinity h = refl
means_back MinusInfinity h = refl
means_back NotANumber h = refl
means_back MinusZero h = refl
means_back (Binary x) h = binary_back x h
means_back (Decimal x) h = decimal_back x h

pub real_back : (canonical : Bool) (x : Real) → IsHeld x → IsReal canonical (real_octets x) x
real_back false x h = means_back x h
real_back true x h = (means_back x h, refl)
