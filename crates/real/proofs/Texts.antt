-- Spaces, signs and digits in front of octets, and the numbers that digits are.
use Rattle.std.proofs.Common.{◌≡◌, ℕ, zero, suc, ◌+◌, ◌-◌, ◌*◌, ◌/◌, ◌%◌, ◌^◌, ◌<◌, ◌≤◌, Bool, true, false, ◌==◌}
use Rattle.std.proofs.Common.{List, [], ◌∷◌, ◌++◌, length, get_or, take, drop, replicate, refl, sym, ap, ◌∙◌, subst, arith, add-one, inl, inr, ◌⊎◌}
use Rattle.std.proofs.Common.{ℤ, pos, ◌+ℤ◌, Option, Some, None, MatchOption}
use Rattle.std.proofs.Math.Nat.{pow-succ'}
use Rattle.std.proofs.lemmas.Bool.{cases_eq, ne_eqb}
use Rattle.std.proofs.lemmas.Bool.Decides.{nat_tests}
use Rattle.std.proofs.lemmas.List.{take_all, take-append-drop, append-nil, drop_more}
use Rattle.std.specs.List.{prefix_len}
use Rattle.real.specs.Number.{DecimalNumber, IsDecimalNumber}
use Rattle.real.specs.Decimal.{is_digit, AreDigits, number_from, number, with_sign, IsSign, IsExponent, IsScale, IsMarked, IsTail, IsDecimal}
use Rattle.real.specs.Scan.{is_space, is_minus, behind_sign, unspaced, body, whole_of, tail_of, IsStripped, IsTooLarge, IsMantissa}

-- ---- powers of ten

times_ten : (m q : ℕ) → m * (10 * q) ≡ 10 * (m * q)
times_ten m q = omega arith

pub tens : (m j : ℕ) → m * 10 ^ suc j ≡ 10 * (m * 10 ^ j)
tens m j = rw (pow-succ' 10 j) (times_ten m (10 ^ j))

-- two numbers that aren't multiples of ten have their own products with powers of ten
pub ten_one : (m n j k : ℕ) → 0 < m % 10 → 0 < n % 10 → m * 10 ^ j ≡ n * 10 ^ k → (m ≡ n) × (j ≡ k)
ten_one m n zero zero p q e = (omega arith, refl)
ten_one m n zero (suc k) p q e = let d = tens n k in absurd (omega arith)
ten_one m n (suc j) zero p q e = let d = tens m j in absurd (omega arith)
ten_one m n (suc j) (suc k) p q e =
    let c = tens m j in
    let d = tens n k in
    let h = ten_one m n j k p q (omega arith) in
    (h.0, ap suc h.1)

pub ten_out : (n r p : ℕ) → n % 10 ≡ 0 → n / 10 ≡ r * 10 ^ p → n ≡ r * 10 ^ (p + 1)
ten_out n r p e h = rw (add-one, tens r p) (omega arith)

-- ---- numbers of digits

pub number_from-append : (n : ℕ) (v w : List ℕ) → number_from n (v ++ w) ≡ number_from (number_from n v) w
number_from-append n [] w = refl
number_from-append n (b ∷ v) w = number_from-append (n * 10 + (b - 0x30)) v w

pub number_from-ge : (n : ℕ) (w : List ℕ) → n ≤ number_from n w
number_from-ge n [] = omega arith
number_from-ge n (b ∷ w) = let h = number_from-ge (n * 10 + (b - 0x30)) w in omega arith

pub digit_range : (b : ℕ) → is_digit b ≡ true → (0x30 ≤ b) × (b < 0x3A)
digit_range b h = (grind (arith, nat_tests), grind (arith, nat_tests))

pub digit_from : (b : ℕ) → 0x30 ≤ b → b < 0x3A → is_digit b ≡ true
digit_from b h k = grind (arith, nat_tests)

pub AreDigits-append : (v w : List ℕ) → AreDigits v → AreDigits w → AreDigits (v ++ w)
AreDigits-append [] w h k = k
AreDigits-append (b ∷ v) w h k = (h.0, AreDigits-append v w h.1 k)

grows : (m p : ℕ) → m ≤ m * 10 ^ p
grows m zero = omega arith
grows m (suc p) = let h = grows m p in let d = tens m p in omega arith

large_with : (n d : ℕ) → d < 10 → IsTooLarge n → IsTooLarge (n * 10 + d)
large_with n zero h t =
    let e = tens t.part t.zeros in
    let v = t.value in
    record { part = t.part; zeros = suc t.zeros; value = omega arith; last = t.last; large = t.large }
large_with n (suc d) h t =
    let v = t.value in
    let l = t.large in
    let g = grows t.part t.zeros in
    record { part = n * 10 + suc d; zeros = 0; value = omega arith; last = omega arith; large = omega arith }

pub stays_large : (n : ℕ) (w : List ℕ) → AreDigits w → IsTooLarge n → IsTooLarge (number_from n w)
stays_large n [] h t = t
stays_large n (b ∷ w) h t =
    let r = digit_range b h.0 in
    stays_large (n * 10 + (b - 0x30)) w h.1 (large_with n (b - 0x30) (omega arith) t)

pub not_large : (n m power : ℕ) → n ≡ m * 10 ^ power → 0 < m % 10 → m < 2 ^ 64 → IsTooLarge n → ⊥
not_large n m power e l s t =
    let o = ten_one m t.part power t.zeros l t.last (sym e ∙ t.value) in
    let k = t.large in
    omega arith

-- ---- what stands in front

pub step_yes : (p : ℕ → Bool) (b : ℕ) (w : List ℕ) → p b ≡ true → prefix_len p (b ∷ w) ≡ suc (prefix_len p w)
step_yes p b w h = rw h (omega arith)

pub step_no : (p : ℕ → Bool) (b : ℕ) (w : List ℕ) → p b ≡ false → prefix_len p (b ∷ w) ≡ 0
step_no p b w h = rw h refl

pub digits_front : (v t : List ℕ) → AreDigits v → prefix_len is_digit t ≡ 0 → prefix_len is_digit (v ++ t) ≡ length v
digits_front [] t d h = h
digits_front (b ∷ v) t d h = step_yes is_digit b (v ++ t) d.0 ∙ ap suc (digits_front v t d.1 h)

leading_at : (b : ℕ) (w : List ℕ) (t : Bool) → is_digit b ≡ t → AreDigits (take (prefix_len is_digit w) w)
    → AreDigits (take (prefix_len is_digit (b ∷ w)) (b ∷ w))
leading_at b w true e i = subst (λ n. AreDigits (take n (b ∷ w))) (sym (step_yes is_digit b w e)) (e, i)
leading_at b w false e i = subst (λ n. AreDigits (take n (b ∷ w))) (sym (step_no is_digit b w e)) tt

pub leading : (w : List ℕ) → AreDigits (take (prefix_len is_digit w) w)
leading [] = tt
leading (b ∷ w) = leading_at b w (is_digit b) refl (leading w)

pub all_digits : (w : List ℕ) → AreDigits w → prefix_len is_digit w ≡ length w
all_digits [] d = refl
all_digits (b ∷ w) d = step_yes is_digit b w d.0 ∙ ap suc (all_digits w d.1)

pub are_digits : (w : List ℕ) → length w ≤ prefix_len is_digit w → AreDigits w
are_digits w h = subst AreDigits (take_all (prefix_len is_digit w) w h) (leading w)

pub spaces_front : (n : ℕ) (t : List ℕ) → prefix_len is_space t ≡ 0 → prefix_len is_space (replicate n 0x20 ++ t) ≡ n
spaces_front zero t h = h
spaces_front (suc n) t h = step_yes is_space 0x20 (replicate n 0x20 ++ t) refl ∙ ap suc (spaces_front n t h)

spaces_lead_at : (b : ℕ) (w : List ℕ) (t : Bool) → is_space b ≡ t → w ≡ replicate (prefix_len is_space w) 0x20 ++ drop (prefix_len is_space w) w
    → b ∷ w ≡ replicate (prefix_len is_space (b ∷ w)) 0x20 ++ drop (prefix_len is_space (b ∷ w)) (b ∷ w)
spaces_lead_at b w true e i =
    let s : b ≡ 0x20 = grind (arith, nat_tests) in
    subst (λ n. b ∷ w ≡ replicate n 0x20 ++ drop n (b ∷ w)) (sym (step_yes is_space b w e)) (rw s (ap (λ v. 0x20 ∷ v) i))
spaces_lead_at b w false e i = subst (λ n. b ∷ w ≡ replicate n 0x20 ++ drop n (b ∷ w)) (sym (step_no is_space b w e)) refl

pub spaces_lead : (w : List ℕ) → w ≡ replicate (prefix_len is_space w) 0x20 ++ drop (prefix_len is_space w) w
spaces_lead [] = refl
spaces_lead (b ∷ w) = spaces_lead_at b w (is_space b) refl (spaces_lead w)

-- octets are a sign and what stands behind it
pub record Signed (w : List ℕ) : Type 0 where
  pub sign : List ℕ
  pub is_sign : IsSign sign (is_minus w)
  pub octets : w ≡ sign ++ behind_sign w

no_sign : (b : ℕ) (w : List ℕ) → (b == 0x2B) ≡ false → (b == 0x2D) ≡ false → Signed (b ∷ w)
no_sign b w p m =
    let i : IsSign [] (b == 0x2D) = rw m (inl refl) in
    let o : b ∷ w ≡ behind_sign (b ∷ w) = rw (p, m) refl in
    record { sign = []; is_sign = i; octets = o }

pub signed : (w : List ℕ) → Signed w
signed [] = record { sign = []; is_sign = inl refl; octets = refl }
signed (b ∷ w) = elim (cases_eq b 0x2B) [
  | inl e ↦ subst (λ b. Signed (b ∷ w)) (sym e) (record { sign = 0x2B ∷ []; is_sign = inr refl; octets = refl })
  | inr p ↦ elim (cases_eq b 0x2D) [
    | inl e ↦ subst (λ b. Signed (b ∷ w)) (sym e) (record { sign = 0x2D ∷ []; is_sign = refl; octets = refl })
    | inr m ↦ no_sign b w (ne_eqb b 0x2B p) (ne_eqb b 0x2D m)
  ]
]

-- neither a space nor a sign stands first
pub record Starts (t : List ℕ) : Type 0 where
  pub no_space : prefix_len is_space t ≡ 0
  pub no_minus : is_minus t ≡ false
  pub no_sign : behind_sign t ≡ t

pub sign_front : (v t : List ℕ) (n : Bool) → IsSign v n → Starts t
    → (prefix_len is_space (v ++ t) ≡ 0) × (is_minus (v ++ t) ≡ n) × (behind_sign (v ++ t) ≡ t)
sign_front v t false (inl e) s = rw e (s.no_space, s.no_minus, s.no_sign)
sign_front v t false (inr e) s = rw e (refl, refl, refl)
sign_front v t true e s = rw e (refl, refl, refl)

starts : (b : ℕ) (w : List ℕ) → (b == 0x20) ≡ false → (b == 0x2B) ≡ false → (b == 0x2D) ≡ false → Starts (b ∷ w)
starts b w s p m = record { no_space = rw s refl; no_minus = m; no_sign = rw (p, m) refl }

digit_starts : (b : ℕ) (w : List ℕ) → is_digit b ≡ true → Starts (b ∷ w)
digit_starts b w h =
    let r = digit_range b h in
    starts b w (ne_eqb b 0x20 (λ e. omega arith)) (ne_eqb b 0x2B (λ e. omega arith)) (ne_eqb b 0x2D (λ e. omega arith))

pub digits_start : (v t : List ℕ) → AreDigits v → Starts t → Starts (v ++ t)
digits_start [] t d s = s
digits_start (b ∷ v) t d s = digit_starts b (v ++ t) d.0

nothing_starts : Starts []
nothing_starts = record { no_space = refl; no_minus = refl; no_sign = refl }

pub tail_starts : (form : ℕ) (t f : List ℕ) (z : ℤ) → IsTail form t f z → Starts t × (prefix_len is_digit t ≡ 0)
tail_starts form t f z (inl h) = rw h.1 (nothing_starts, refl)
tail_starts form t f z (inr h) = elim h.is_mark [
  | inl e ↦ rw (h.octets, e) (starts 0x2E _ refl refl refl, refl)
  | inr e ↦ rw (h.octets, e) (starts 0x2C _ refl refl refl, refl)
]

-- ---- for the functions that read

pub headed : (w : List ℕ) → 1 ≤ length w → w ≡ get_or w 0 0 ∷ take (length w - 1) (drop 1 w)
headed [] h = absurd (omega arith)
headed (b ∷ w) h =
    let e : suc (length w) - 1 ≡ length w = omega arith in
    rw e (ap (λ v. b ∷ v) (sym (take_all (length w) w (omega arith))))

pub scale_made : (w v : List ℕ) (letter n : ℕ) (z : ℤ) → w ≡ letter ∷ v → (letter ≡ 0x45) ⊎ (letter ≡ 0x65) → IsExponent (behind_sign v) n
    → z ≡ with_sign (is_minus v) n → IsScale w z
scale_made w v letter n z e l i s =
    let g = signed v in
    record {
      letter = letter;
      is_letter = l;
      sign = g.sign;
      digits = behind_sign v;
      octets = e ∙ ap (λ v. letter ∷ v) g.octets;
      negative = is_minus v;
      is_sign = g.is_sign;
      size = n;
      is_exponent = i;
      value = s;
    }

pub marked_without : (form mark : ℕ) (w v : List ℕ) (z : ℤ) → w ≡ mark ∷ v → (mark ≡ 0x2E) ⊎ (mark ≡ 0x2C) → form ≡ 2
    → length v ≤ prefix_len is_digit v → z ≡ pos 0 → IsMarked form w v z
marked_without form mark w v z e m f d s =
    record {
      mark = mark;
      is_mark = m;
      scale = [];
      octets = e ∙ ap (λ v. mark ∷ v) (sym (append-nil v));
      are_digits = are_digits v d;
      is_scale = inl (f, refl, s);
    }

pub marked_with : (form mark : ℕ) (w v : List ℕ) (z : ℤ) → w ≡ mark ∷ v → (mark ≡ 0x2E) ⊎ (mark ≡ 0x2C) → form ≡ 3
    → IsScale (drop (prefix_len is_digit v) v) z → IsMarked form w (take (prefix_len is_digit v) v) z
marked_with form mark w v z e m f s =
    record {
      mark = mark;
      is_mark = m;
      scale = drop (prefix_len is_digit v) v;
      octets = e ∙ ap (λ v. mark ∷ v) (sym (take-append-drop (prefix_len is_digit v) v));
      are_digits = leading v;
      is_scale = inr (f, s);
    }

pub decimal_made : (form : ℕ) (w f : List ℕ) (z : ℤ) (power : ℕ) (x : DecimalNumber) → x.negative ≡ is_minus (unspaced w)
    → IsTail form (tail_of w) f z → number (whole_of w ++ f) ≡ x.mantissa * 10 ^ power → x.exponent +ℤ pos (length f) ≡ z +ℤ pos power
    → IsDecimalNumber x → IsDecimal form w x
decimal_made form w f z power x n t m e h =
    let g = signed (unspaced w) in
    let s : unspaced w ≡ g.sign ++ (whole_of w ++ tail_of w) =
    g.octets ∙ ap (λ v. g.sign ++ v) (sym (take-append-drop (prefix_len is_digit (body w)) (body w))) in
    record {
      spaces = prefix_len is_space w;
      sign = g.sign;
      whole = whole_of w;
      tail = tail_of w;
      octets = spaces_lead w ∙ ap (λ v. replicate (prefix_len is_space w) 0x20 ++ v) s;
      is_sign = rw n g.is_sign;
      are_digits = leading (body w);
      fraction = f;
      scale = z;
      is_tail = t;
      power = power;
      mantissa_is = m;
      exponent_is = e;
      held = h;
    }

pub number_large : (n i : ℕ) (w : List ℕ) → i < length w → 2 ^ 32 ≤ n * 10 + (get_or w i 0 - 0x30) → 2 ^ 32 ≤ number_from n (drop i w)
number_large n i w h l =
    let e = ap (number_from n) (drop_more w i 0 h) in
    let g = number_from-ge (n * 10 + (get_or w i 0 - 0x30)) (drop (i + 1) w) in
    rw e (omega arith)

pub exponent_is : (r : Option ℕ) (w : List ℕ) → AreDigits w → 1 ≤ length w → MatchOption r (2 ^ 32 ≤ number w) (λ r. (r ≡ number w) × (r < 2 ^ 32))
    → MatchOption r ((n : ℕ) → IsExponent w n → ⊥) (λ n. IsExponent w n)
exponent_is None w d s h = λ n i. let v = i.value in let b = i.below in omega arith
exponent_is (Some r) w d s h = record { are_digits = d; some = s; value = h.0; below = h.1 }

pub raised_large : (n k : ℕ) → (k ≡ 0 → ⊥) → 1844674407370955161 < n → 2 ^ 64 ≤ n * 10 ^ k
raised_large n zero h l = absurd (h refl)
raised_large n (suc k) h l = let e = tens n k in let g = grows n k in omega arith

times_tens : (n q : ℕ) → n * 10 * q ≡ 10 * (n * q)
times_tens n q = omega arith

pub raised_step : (n k : ℕ) → (k ≡ 0 → ⊥) → n * 10 * 10 ^ (k - 1) ≡ n * 10 ^ k
raised_step n zero h = absurd (h refl)
raised_step n (suc k) h = let e : suc k - 1 ≡ k = omega arith in rw (e, tens n k) (times_tens n (10 ^ k))

pub more_tens : (n z : ℕ) → n * 10 ^ (z + 1) ≡ n * 10 ^ z * 10
more_tens n z = rw add-one (let e = tens n z in omega arith)

pub zero_behind : (n z d : ℕ) → d ≡ 0 → (n ≡ 0 → ⊥) → IsStripped (n * 10 ^ z) n z → IsStripped (n * 10 ^ z * 10 + d) n (z + 1)
zero_behind n z d e s h =
    let m = more_tens n z in
    record { value = omega arith; kind = elim h.kind [ inl k ↦ absurd (s k.0) | inr k ↦ inr k ] }

pub digit_behind : (n z d f g : ℕ) → (d ≡ 0 → ⊥) → d < 10 → f ≡ n * 10 ^ (z + 1) → g ≡ d → IsStripped (n * 10 ^ z * 10 + d) (f + g) 0
digit_behind n z d f g s b e k =
    let m = more_tens n z in
    record { value = omega arith; kind = inr (omega arith) }

pub digit_large : (n z d : ℕ) → (d ≡ 0 → ⊥) → d < 10 → 2 ^ 64 ≤ n * 10 ^ (z + 1) + d → IsTooLarge (n * 10 ^ z * 10 + d)
digit_large n z d s b l =
    let m = more_tens n z in
    record { part = n * 10 ^ z * 10 + d; zeros = 0; value = omega arith; last = omega arith; large = omega arith }

AreDigits-drop : (i : ℕ) (w : List ℕ) → AreDigits w → AreDigits (drop i w)
AreDigits-drop zero w d = d
AreDigits-drop (suc i) [] d = d
AreDigits-drop (suc i) (b ∷ w) d = AreDigits-drop i w d.1

pub digits_large : (n i : ℕ) (w : List ℕ) → i < length w → AreDigits (drop i w) → IsTooLarge (n * 10 + (get_or w i 0 - 0x30))
    → IsTooLarge (number_from n (drop i w))
digits_large n i w h d t =
    let e = drop_more w i 0 h in
    let k : AreDigits (get_or w i 0 ∷ drop (i + 1) w) = subst AreDigits e d in
    rw e (stays_large (n * 10 + (get_or w i 0 - 0x30)) (drop (i + 1) w) k.1 t)

-- the mantissa of digits before and behind the mark
pub front_large : (v w : List ℕ) (m p : ℕ) → AreDigits w → IsTooLarge (number v) → IsMantissa (v ++ w) m p → ⊥
front_large v w m p d t h = not_large (number (v ++ w)) m p h.value h.last h.below (rw (number_from-append 0 v w) (stays_large (number v) w d t))

pub all_large : (v w : List ℕ) (n m p : ℕ) → number v ≡ n → IsTooLarge (number_from n w) → IsMantissa (v ++ w) m p → ⊥
all_large v w n m p e t h = not_large (number (v ++ w)) m p h.value h.last h.below (rw (number_from-append 0 v w, e) t)

pub no_zero : (n m p : ℕ) → n ≡ 0 → n ≡ m * 10 ^ p → 0 < m % 10 → ⊥
no_zero n m p z e l = let g = grows m p in omega arith

pub all_zero : (v w : List ℕ) (n y k m p : ℕ) → number v ≡ n → y ≡ 0 → IsStripped (number_from n w) y k → IsMantissa (v ++ w) m p → ⊥
all_zero v w n y k m p e z s h =
    let a : number (v ++ w) ≡ 0 = number_from-append 0 v w ∙ ap (λ n. number_from n w) e ∙ s.value ∙ rw z (omega arith) in
    no_zero (number (v ++ w)) m p a h.value h.last

pub mantissa_made : (v w : List ℕ) (n y k : ℕ) → number v ≡ n → (y ≡ 0 → ⊥) → y < 2 ^ 64 → IsStripped (number_from n w) y k → IsMantissa (v ++ w) y k
mantissa_made v w n y k e z b s =
    record {
      value = number_from-append 0 v w ∙ ap (λ n. number_from n w) e ∙ s.value;
      last = elim s.kind [ inl q ↦ absurd (z q.0) | inr q ↦ q ];
      below = b;
    }

pub tail_is_marked : {X : Type 0} (f : X → List ℕ) (g : X → ℤ) (form : ℕ) (w : List ℕ) (r : Option X) → (form ≡ 1 → ⊥)
    → MatchOption r ((v : List ℕ) (z : ℤ) → IsMarked form w v z → ⊥) (λ r. IsMarked form w (f r) (g r))
    → MatchOption r ((v : List ℕ) (z : ℤ) → IsTail form w v z → ⊥) (λ r. IsTail form w (f r) (g r))
tail_is_marked f g form w None n h = λ v z t. elim t [ inl s ↦ n s.0 | inr s ↦ h v z s ]
tail_is_marked f g form w (Some r) n h = inr h

pub same_power : (w : List ℕ) (m p n q : ℕ) → IsMantissa w m p → IsMantissa w n q → p ≡ q
same_power w m p n q h k = (ten_one m n p q h.last k.last (sym h.value ∙ k.value)).1
