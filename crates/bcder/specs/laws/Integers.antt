-- Each integer has one smallest list of octets.
use Rattle.std.proofs.Common.{◌≡◌, ℕ, zero, suc, ◌+◌, ◌-◌, ◌*◌, ◌/◌, ◌%◌, ◌^◌, ◌<◌, ◌≤◌, Bool, true, false, List, [], ◌∷◌, ◌++◌}
use Rattle.std.proofs.Common.{length, refl, sym, ap, ◌∙◌, arith, inl, inr, ◌⊎◌, length-append, ltb, subst}
use Rattle.std.specs.Prelude.{ℤ, pos, negsuc, ◌-ℤ◌}
use Rattle.std.proofs.lemmas.Bool.{cases_lt, lt-ltb, le-ltb}
use Rattle.std.proofs.lemmas.Nat.{mul-le}
use Rattle.std.proofs.Math.Nat.{pow-le-pow_right}
use Rattle.bcder.specs.x690.Identifier.{AreOctets}
use Rattle.bcder.specs.x690.Length.{big_endian}
use Rattle.bcder.specs.x690.Integer.{number, IsSmallest, AreInteger, octet, octets_within, integer_octets, Leads, OneInteger, SomeInteger}
use Rattle.bcder.specs.laws.Canonical.{big_endian-lt, same_digits}

pub AreOctets-nil : AreOctets []
AreOctets-nil i = omega arith

pub AreOctets-cons : (b : ℕ) (w : List ℕ) → b < 256 → AreOctets w → AreOctets (b ∷ w)
AreOctets-cons b w l h zero = l
AreOctets-cons b w l h (suc i) = h i

AreOctets-join : (v w : List ℕ) → AreOctets v → AreOctets w → AreOctets (v ++ w)
AreOctets-join [] w h k = k
AreOctets-join (b ∷ v) w h k = AreOctets-cons b (v ++ w) (h 0) (AreOctets-join v w (λ i. h (suc i)) k)

-- ---- the octets of a number: of n, or of -1 - n if negative

one_octet : (negative : Bool) (d : ℕ) → d < 256 → AreOctets (octet negative d ∷ [])
one_octet true d h = AreOctets-cons (255 - d) [] (omega arith) AreOctets-nil
one_octet false d h = AreOctets-cons d [] h AreOctets-nil

pub octets_are : (k : ℕ) (negative : Bool) (n : ℕ) → AreOctets (octets_within k negative n)
octets_are zero negative n = one_octet negative (n % 256) (omega arith)
octets_are (suc k) negative n = elim (cases_lt n 128) [
  | inl a ↦ rw (lt-ltb n 128 a) (one_octet negative n (omega arith))
  | inr a ↦ rw (le-ltb n 128 a) (AreOctets-join _ _ (octets_are k negative (n / 256)) (one_octet negative (n % 256) (omega arith)))
]

pub snoc_value : (w : List ℕ) (d : ℕ) → big_endian (w ++ d ∷ []) ≡ 256 * big_endian w + d
snoc_value [] d = omega arith
snoc_value (b ∷ w) d =
    let r = snoc_value w d in
    let l : length (w ++ d ∷ []) ≡ suc (length w) = omega (arith, length-append w (d ∷ [])) in
    let p : 256 ^ suc (length w) ≡ 256 * 256 ^ length w = omega arith in
    let q : b * 256 ^ length (w ++ d ∷ []) ≡ b * (256 * 256 ^ length w) = ap (λ k. b * 256 ^ k) l ∙ ap (λ x. b * x) p in
    omega (arith, q, r)

-- n fits in k octets after the first
abbrev pub FitsBehind : ℕ → ℕ → Type 0
FitsBehind k n = n < 128 * 256 ^ k

fits_next : (k n : ℕ) → FitsBehind (suc k) n → FitsBehind k (n / 256)
fits_next k n h = let p : 256 ^ suc k ≡ 256 * 256 ^ k = omega arith in omega arith

-- n octets after the first are enough for n
fits_itself : (n : ℕ) → FitsBehind n n
fits_itself zero = omega arith
fits_itself (suc n) =
    let r = fits_itself n in
    let p : 256 ^ suc n ≡ 256 * 256 ^ n = omega arith in
    omega arith

leads_more : (negative : Bool) (w v : List ℕ) → Leads negative w → Leads negative (w ++ v)
leads_more negative [] v h = absurd h
leads_more false (b ∷ w) v h = h
leads_more true (b ∷ w) v h = h

leads_one : (negative : Bool) (d : ℕ) → d < 128 → Leads negative (octet negative d ∷ [])
leads_one false d h = h
leads_one true d h = omega arith

leads_within : (k : ℕ) (negative : Bool) (n : ℕ) → FitsBehind k n → Leads negative (octets_within k negative n)
leads_within zero negative n h = leads_one negative (n % 256) (omega arith)
leads_within (suc k) negative n h = elim (cases_lt n 128) [
  | inl a ↦ rw (lt-ltb n 128 a) (leads_one negative n a)
  | inr a ↦ rw (le-ltb n 128 a) (leads_more negative _ _ (leads_within k negative (n / 256) (fits_next k n h)))
]

positive_within : (k n : ℕ) → FitsBehind k n → big_endian (octets_within k false n) ≡ n
positive_within zero n h = omega arith
positive_within (suc k) n h = elim (cases_lt n 128) [
  | inl a ↦ rw (lt-ltb n 128 a) (omega arith)
  | inr a ↦ rw (le-ltb n 128 a)
      (omega (arith, snoc_value (octets_within k false (n / 256)) (n % 256), positive_within k (n / 256) (fits_next k n h)))
]

negative_snoc : (w : List ℕ) (n : ℕ) → big_endian w + n / 256 + 1 ≡ 256 ^ length w
    → big_endian (w ++ (255 - n % 256) ∷ []) + n + 1 ≡ 256 ^ length (w ++ (255 - n % 256) ∷ [])
negative_snoc w n h =
    let l : length (w ++ (255 - n % 256) ∷ []) ≡ suc (length w) = omega (arith, length-append w ((255 - n % 256) ∷ [])) in
    let p : 256 ^ suc (length w) ≡ 256 * 256 ^ length w = omega arith in
    let q : 256 ^ length (w ++ (255 - n % 256) ∷ []) ≡ 256 * 256 ^ length w = ap (λ k. 256 ^ k) l ∙ p in
    omega (arith, snoc_value w (255 - n % 256), q)

negative_within : (k n : ℕ) → FitsBehind k n → big_endian (octets_within k true n) + n + 1 ≡ 256 ^ length (octets_within k true n)
negative_within zero n h = omega arith
negative_within (suc k) n h = elim (cases_lt n 128) [
  | inl a ↦ rw (lt-ltb n 128 a) (omega arith)
  | inr a ↦ rw (le-ltb n 128 a) (negative_snoc (octets_within k true (n / 256)) n (negative_within k (n / 256) (fits_next k n h)))
]

-- ---- the number in octets

pub number_positive : (w : List ℕ) (n : ℕ) → Leads false w → big_endian w ≡ n → number w ≡ pos n
number_positive [] n l e = absurd l
number_positive (b ∷ w) n l e = rw (lt-ltb b 128 l) (ap pos e)

difference : (x y n : ℕ) → x + n + 1 ≡ y → pos x -ℤ pos y ≡ negsuc n
difference x zero n e = absurd (omega (arith, e))
difference x (suc y) n e =
    let below : ltb x (suc y) ≡ true = lt-ltb x (suc y) (omega (arith, e)) in
    let left : suc y - suc x ≡ n = omega (arith, e) in
    rw below (ap negsuc left)

pub number_negative : (w : List ℕ) (n : ℕ) → Leads true w → big_endian w + n + 1 ≡ 256 ^ length w → number w ≡ negsuc n
number_negative [] n l e = absurd l
number_negative (b ∷ w) n l e = rw (le-ltb b 128 l) (difference _ _ n e)

-- ---- smallest

abbrev TwoOrMore : List ℕ → Type 0
TwoOrMore [] = ⊥
TwoOrMore (a ∷ []) = ⊥
TwoOrMore (a ∷ b ∷ w) = Unit {0}

two_snoc : (negative : Bool) (w : List ℕ) (d : ℕ) → Leads negative w → TwoOrMore (w ++ d ∷ [])
two_snoc negative [] d l = absurd l
two_snoc negative (a ∷ []) d l = tt
two_snoc negative (a ∷ b ∷ w) d l = tt

one_or_more : (k : ℕ) (negative : Bool) (n : ℕ) → FitsBehind k n
    → ((octets_within k negative n ≡ octet negative n ∷ []) × (n < 128)) ⊎ TwoOrMore (octets_within k negative n)
one_or_more zero negative n h = let small : n % 256 ≡ n = omega arith in inl (ap (λ d. octet negative d ∷ []) small, omega arith)
one_or_more (suc k) negative n h = elim (cases_lt n 128) [
  | inl a ↦ rw (lt-ltb n 128 a) (inl (refl, a))
  | inr a ↦ rw (le-ltb n 128 a) (inr (two_snoc negative _ _ (leads_within k negative (n / 256) (fits_next k n h))))
]

smallest_more : (w v : List ℕ) → TwoOrMore w → IsSmallest w → IsSmallest (w ++ v)
smallest_more [] v t h = absurd t
smallest_more (a ∷ []) v t h = absurd t
smallest_more (a ∷ b ∷ w) v t h = h

smallest_two : (negative : Bool) (n : ℕ) → 128 ≤ n → n / 256 < 128 → IsSmallest (octet negative (n / 256) ∷ octet negative (n % 256) ∷ [])
smallest_two false n h k = (λ e. omega (arith, e), λ e. absurd (omega (arith, e)))
smallest_two true n h k = (λ e. absurd (omega (arith, e)), λ e. omega (arith, e))

smallest_within : (k : ℕ) (negative : Bool) (n : ℕ) → FitsBehind k n → IsSmallest (octets_within k negative n)
smallest_within zero negative n h = tt
smallest_within (suc k) negative n h = elim (cases_lt n 128) [
  | inl a ↦ rw (lt-ltb n 128 a) tt
  | inr a ↦ rw (le-ltb n 128 a) (elim (one_or_more k negative (n / 256) (fits_next k n h)) [
    | inl one ↦ rw (one.0) (smallest_two negative n a one.1)
    | inr two ↦ smallest_more _ _ two (smallest_within k negative (n / 256) (fits_next k n h))
  ])
]

pub positive_octets : (k n : ℕ) → FitsBehind k n → AreInteger (pos n) (octets_within k false n)
positive_octets k n h =
    record { smallest = smallest_within k false n h; is = number_positive _ n (leads_within k false n h) (positive_within k n h) }

pub negative_octets : (k n : ℕ) → FitsBehind k n → AreInteger (negsuc n) (octets_within k true n)
negative_octets k n h =
    record { smallest = smallest_within k true n h; is = number_negative _ n (leads_within k true n h) (negative_within k n h) }

pub some_integer : SomeInteger
unfolding integer_octets
some_integer (pos n) = (octets_are n false n, positive_octets n n (fits_itself n))
some_integer (negsuc n) = (octets_are n true n, negative_octets n n (fits_itself n))

pub integer_octets_are : (z : ℤ) → AreOctets (integer_octets z)
integer_octets_are z = (some_integer z).0

-- ---- one smallest list for each number

-- m is in the range of the magnitudes of smallest lists as long as w
pub record Sized (m : ℕ) (w : List ℕ) : Type 0 where
  pub some : 1 ≤ length w
  pub below : 2 * m < 256 ^ length w
  pub least : 2 ≤ length w → 256 ^ length w ≤ 512 * m

place : (w : List ℕ) → 256 ^ suc (length w) ≡ 256 * 256 ^ length w
place w = omega arith

positive_least : (b : ℕ) (w : List ℕ) → b < 128 → IsSmallest (b ∷ w) → 2 ≤ length (b ∷ w) → 256 ^ length (b ∷ w) ≤ 512 * big_endian (b ∷ w)
positive_least b [] l h two = absurd (omega arith)
positive_least zero (c ∷ w) l h two =
    let m = mul-le 128 (256 ^ length w) c (256 ^ length w) (h.0 refl) (omega arith) in
    omega (arith, m, place w, place (c ∷ w))
positive_least (suc b) (c ∷ w) l h two =
    let m = mul-le 1 (256 ^ length (c ∷ w)) (suc b) (256 ^ length (c ∷ w)) (omega arith) (omega arith) in
    omega (arith, m, place w, place (c ∷ w))

positive_sized : (b : ℕ) (w : List ℕ) → AreOctets (b ∷ w) → b < 128 → IsSmallest (b ∷ w) → Sized (big_endian (b ∷ w)) (b ∷ w)
positive_sized b w o l h =
    let m = mul-le b (256 ^ length w) 127 (256 ^ length w) (omega arith) (omega arith) in
    let r = big_endian-lt w (λ i. o (suc i)) in
    record { some = omega arith; below = omega (arith, m, r, place w); least = positive_least b w l h }

negative_least : (b n : ℕ) (w : List ℕ) → AreOctets (b ∷ w) → 128 ≤ b → IsSmallest (b ∷ w)
    → big_endian (b ∷ w) + n + 1 ≡ 256 ^ length (b ∷ w) → 2 ≤ length (b ∷ w) → 256 ^ length (b ∷ w) ≤ 512 * n
negative_least b n [] o l h e two = absurd (omega arith)
negative_least b n (c ∷ w) o l h e two = elim (cases_lt b 255) [
  | inl a ↦ (
      let m = mul-le b (256 ^ length (c ∷ w)) 254 (256 ^ length (c ∷ w)) (omega arith) (omega arith) in
      let r = big_endian-lt (c ∷ w) (λ i. o (suc i)) in
      omega (arith, m, r, e, place w, place (c ∷ w)))
  | inr a ↦ (
      let top : b ≡ 255 = omega (arith, o 0) in
      let small = h.1 top in
      let m = mul-le c (256 ^ length w) 127 (256 ^ length w) (omega arith) (omega arith) in
      let k = mul-le b (256 ^ length (c ∷ w)) 255 (256 ^ length (c ∷ w)) (omega arith) (omega arith) in
      let r = big_endian-lt w (λ i. o (suc (suc i))) in
      omega (arith, m, k, r, e, place w, place (c ∷ w)))
]

negative_sized : (b n : ℕ) (w : List ℕ) → AreOctets (b ∷ w) → 128 ≤ b → IsSmallest (b ∷ w)
    → big_endian (b ∷ w) + n + 1 ≡ 256 ^ length (b ∷ w) → Sized n (b ∷ w)
negative_sized b n w o l h e =
    let m = mul-le 128 (256 ^ length w) b (256 ^ length w) l (omega arith) in
    record { some = omega arith; below = omega (arith, m, e, place w); least = negative_least b n w o l h e }

-- of two numbers of one sign, that with fewer octets is nearer to 0
pub nearer : (m n : ℕ) (v w : List ℕ) → Sized m v → Sized n w → length v < length w → m < n
nearer m n v w s t less =
    let some = s.some in
    let up = t.least (omega arith) in
    let low = s.below in
    let p : 256 ^ suc (length v) ≤ 256 ^ length w = pow-le-pow_right (omega arith) (omega arith) in
    omega (arith, p, up, low, place v)

same_length : (m : ℕ) (v w : List ℕ) → Sized m v → Sized m w → length v ≡ length w
same_length m v w s t = elim (cases_lt (length v) (length w)) [
  | inl a ↦ absurd (omega (arith, nearer m m v w s t a))
  | inr a ↦ elim (cases_lt (length w) (length v)) [
    | inl b ↦ absurd (omega (arith, nearer m m w v t s b))
    | inr b ↦ omega arith
  ]
]

-- what a smallest list says: its sign and its magnitude
pub data Told (w : List ℕ) : ℤ → Type 0 where
  positive : (n : ℕ) → Leads false w → Sized n w → big_endian w ≡ n → Told w (pos n)
  negative : (n : ℕ) → Leads true w → Sized n w → big_endian w + n + 1 ≡ 256 ^ length w → Told w (negsuc n)

pub told : (w : List ℕ) → AreOctets w → IsSmallest w → Told w (number w)
told [] o h = absurd h
told (b ∷ w) o h = elim (cases_lt b 128) [
  | inl a ↦ rw (number_positive (b ∷ w) _ a refl) (positive (big_endian (b ∷ w)) a (positive_sized b w o a h) refl)
  | inr a ↦ (
      let n = 256 ^ length (b ∷ w) - suc (big_endian (b ∷ w)) in
      let e : big_endian (b ∷ w) + n + 1 ≡ 256 ^ length (b ∷ w) = omega (arith, big_endian-lt (b ∷ w) o) in
      rw (number_negative (b ∷ w) n a e) (negative n a (negative_sized b n w o a h e) e))
]

pub told_by : (z : ℤ) (w : List ℕ) → AreOctets w → AreInteger z w → Told w z
told_by z w o a = subst (λ x. Told w x) a.is (told w o a.smallest)

one_told : (v w : List ℕ) (x y : ℤ) → AreOctets v → AreOctets w → Told v x → Told w y → x ≡ y → v ≡ w
one_told v w (pos m) (pos n) o p (positive _ _ s a) (positive _ _ t b) e =
    let same : m ≡ n = cc in
    let u : Sized m w = subst (λ k. Sized k w) (sym same) t in
    same_digits v w (same_length m v w s u) o p (omega (arith, a, b, same))
one_told v w (pos m) (negsuc n) o p (positive _ _ s a) (negative _ _ t b) e = cc
one_told v w (negsuc m) (pos n) o p (negative _ _ s a) (positive _ _ t b) e = cc
one_told v w (negsuc m) (negsuc n) o p (negative _ _ s a) (negative _ _ t b) e =
    let same : m ≡ n = cc in
    let u : Sized m w = subst (λ k. Sized k w) (sym same) t in
    let l = same_length m v w s u in
    same_digits v w l o p (omega (arith, a, b, same, ap (λ k. 256 ^ k) l))

pub one_integer : OneInteger
one_integer z v w o p a b = one_told v w z z o p (told_by z v o a) (told_by z w p b) refl

-- the contents octets of an integer are its `integer_octets`
pub are_integer_octets : (z : ℤ) (w : List ℕ) → AreOctets w → AreInteger z w → w ≡ integer_octets z
are_integer_octets z w o a = one_integer z w (integer_octets z) o (some_integer z).0 a (some_integer z).1
