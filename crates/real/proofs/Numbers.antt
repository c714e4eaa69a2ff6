-- Numbers in octets: reading and writing them.
use Rattle.std.proofs.Common.{◌≡◌, ◌≢◌, ℕ, zero, suc, ◌+◌, ◌-◌, ◌*◌, ◌/◌, ◌%◌, ◌^◌, ◌<◌, ◌≤◌, Bool, true, false, if◌then◌else◌}
use Rattle.std.proofs.Common.{List, [], ◌∷◌, ◌++◌, length, get_or, drop, map, refl, sym, ap, ◌∙◌, arith, append_assoc, add-one}
use Rattle.std.proofs.Math.Nat.{pow-succ'}
use Rattle.std.proofs.lemmas.List.{drop_more, map-append}
use Rattle.std.proofs.lemmas.Int.Digits.{digits_of_step}
use Rattle.std.specs.Int.Digits.{digits_of}
use Rattle.std.specs.Prelude.{pos, ◌-ℤ◌}
use Rattle.std.specs.Int.{complement_if}
use Rattle.real.specs.Number.{BinaryNumber}
use Rattle.real.specs.Octets.{unsigned_from, unsigned, signed, big_endian, complement, octet, exponent_len, with_len, binary_octets}
use Rattle.real.specs.Decimal.{digits}

-- ---- reading

pub no_less : (n : ℕ) (w : List ℕ) → n ≤ unsigned_from n w
no_less n [] = omega arith
no_less n (b ∷ w) = let h = no_less (n * 256 + b) w in omega arith

pub next_octet : (n i : ℕ) (w : List ℕ) → i < length w
    → unsigned_from n (drop i w) ≡ unsigned_from (n * 256 + get_or w i 0) (drop (i + 1) w)
next_octet n i w h = ap (unsigned_from n) (drop_more w i 0 h)

pub too_large : (n i : ℕ) (w : List ℕ) → i < length w → 72057594037927936 ≤ n → 2 ^ 64 ≤ unsigned_from n (drop i w)
too_large n i w h k = rw (next_octet n i w h) (let m = no_less (n * 256 + get_or w i 0) (drop (i + 1) w) in omega arith)

pub all_dropped : {X : Type 0} (w : List X) (i : ℕ) → length w ≤ i → drop i w ≡ []
all_dropped [] zero h = refl
all_dropped [] (suc i) h = refl
all_dropped (x ∷ w) zero h = absurd (omega arith)
all_dropped (x ∷ w) (suc i) h = all_dropped w i (omega arith)

pub next_power : (k : ℕ) → 256 ^ (k + 1) ≡ 256 * 256 ^ k
next_power k = rw add-one (pow-succ' 256 k)

pub few_octets : (k : ℕ) → k ≤ 4 → 256 ^ k ≤ 4294967296
few_octets zero h = omega arith
few_octets (suc zero) h = omega arith
few_octets (suc (suc zero)) h = omega arith
few_octets (suc (suc (suc zero))) h = omega arith
few_octets (suc (suc (suc (suc zero)))) h = omega arith
few_octets (suc (suc (suc (suc (suc k))))) h = absurd (omega arith)

pub signed_positive : (w : List ℕ) → 1 ≤ length w → get_or w 0 0 < 128 → signed w ≡ pos (unsigned w)
signed_positive [] h k = absurd (omega arith)
signed_positive (b ∷ w) h k = grind arith

pub signed_negative : (w : List ℕ) → 1 ≤ length w → 128 ≤ get_or w 0 0 → signed w ≡ pos (unsigned w) -ℤ pos (256 ^ length w)
signed_negative [] h k = absurd (omega arith)
signed_negative (b ∷ w) h k = grind arith

-- ---- writing

pub big_endian-none : (k : ℕ) → big_endian k 0 ≡ []
big_endian-none zero = refl
big_endian-none (suc k) = refl

pub big_endian-some : (k n : ℕ) → n ≢ 0 → big_endian (suc k) n ≡ big_endian k (n / 256) ++ n % 256 ∷ []
big_endian-some k n h = grind arith

pub counts : (k n : ℕ) → n ≢ 0 → n < 256 ^ k → 1 ≤ k
counts zero n h l = absurd (h (omega arith))
counts (suc k) n h l = omega arith

pub fits_before : (k n : ℕ) → n ≢ 0 → n < 256 ^ k → n / 256 < 256 ^ (k - 1)
fits_before zero n h l = absurd (h (omega arith))
fits_before (suc k) n h l =
    let back : suc k - 1 ≡ k = omega arith in
    let p = pow-succ' 256 k in
    rw back (omega arith)

pub big_endian_of : (k n : ℕ) (before : List ℕ) → n ≢ 0 → n < 256 ^ k
    → (before ++ big_endian (k - 1) (n / 256)) ++ n % 256 ∷ [] ≡ before ++ big_endian k n
big_endian_of zero n before h l = absurd (h (omega arith))
big_endian_of (suc k) n before h l =
    let back : suc k - 1 ≡ k = omega arith in
    rw (back, big_endian-some k n h) (append_assoc before (big_endian k (n / 256)) (n % 256 ∷ []))

pub complement_of : (negative : Bool) (k n : ℕ) (before : List ℕ) → k ≢ 0
    → (before ++ complement negative (k - 1) (n / 256)) ++ octet negative n ∷ [] ≡ before ++ complement negative k n
complement_of negative zero n before h = absurd (h refl)
complement_of negative (suc k) n before h =
    let back : suc k - 1 ≡ k = omega arith in
    rw back (append_assoc before (complement negative k (n / 256)) (octet negative n ∷ []))

pub with_len-front : (k : ℕ) (w : List ℕ) → with_len k w ≡ with_len k [] ++ w
with_len-front k w = grind arith

-- the octets in the order in which they are put
pub put_in_order : (x : BinaryNumber) (below : Bool) (n count sign : ℕ) (a b c d : List ℕ) → complement_if below n ≡ x.exponent
    → count ≡ exponent_len n → sign ≡ (if x.negative then 64 else 0) → a ≡ (128 + sign + (count - 1)) ∷ [] → b ≡ a ++ with_len count []
    → c ≡ b ++ complement below count n → d ≡ c ++ big_endian 8 x.mantissa → d ≡ binary_octets x
unfolding binary_octets
put_in_order x false n count sign a b c d e l s p q r t =
    rw (t, r, q, p, ← e, s, l, with_len-front (exponent_len n) (complement false (exponent_len n) n)) refl
put_in_order x true n count sign a b c d e l s p q r t =
    rw (t, r, q, p, ← e, s, l, with_len-front (exponent_len n) (complement true (exponent_len n) n)) refl

-- ---- taking out powers of two

pub half_fits : (n bits : ℕ) → 0 < n → (n % 2 ≡ 1 → ⊥) → n < 2 ^ bits → (1 ≤ bits) × (0 < n / 2) × (n / 2 < 2 ^ (bits - 1))
half_fits n zero h e l = absurd (omega arith)
half_fits n (suc k) h e l =
    let back : suc k - 1 ≡ k = omega arith in
    let p = pow-succ' 2 k in
    (omega arith, omega arith, rw back (omega arith))

pub twice : (r q : ℕ) → r * (2 * q) ≡ 2 * (r * q)
twice r q = omega arith

pub doubled : (n r p : ℕ) → (n % 2 ≡ 1 → ⊥) → n / 2 ≡ r * 2 ^ p → n ≡ r * 2 ^ (p + 1)
doubled n r p e h = rw (add-one, pow-succ' 2 p, twice r (2 ^ p)) (omega arith)

-- ---- digits

pub digits-some : (n : ℕ) → n ≢ 0 → digits n ≡ digits (n / 10) ++ (0x30 + n % 10) ∷ []
digits-some n h =
    ap (map (λ d. 0x30 + d)) (digits_of_step 10 n (omega arith) (omega arith)) ∙ map-append (λ d. 0x30 + d) (digits_of 10 (n / 10)) (n % 10 ∷ [])

pub digits_back : (before : List ℕ) (n : ℕ) → n ≢ 0 → (before ++ digits (n / 10)) ++ (0x30 + n % 10) ∷ [] ≡ before ++ digits n
digits_back before n h = append_assoc before (digits (n / 10)) ((0x30 + n % 10) ∷ []) ∙ ap (λ v. before ++ v) (sym (digits-some n h))

pub tenth_fits : (k n : ℕ) → n ≢ 0 → n < 10 ^ k → (1 ≤ k) × (n / 10 < 10 ^ (k - 1))
tenth_fits zero n h l = absurd (h (omega arith))
tenth_fits (suc k) n h l =
    let back : suc k - 1 ≡ k = omega arith in
    let p = pow-succ' 10 k in
    (omega arith, rw back (omega arith))
