-- The sign and the magnitude that contents octets of integers tell.
use Rattle.std.proofs.Common.{◌≡◌, ℕ, zero, suc, ◌+◌, ◌-◌, ◌*◌, ◌^◌, ◌<◌, ◌≤◌, Bool, true, false, List, [], ◌∷◌, ◌≢◌, ◌++◌, length}
use Rattle.std.proofs.Common.{take, drop, get_or, inl, inr, refl, sym, ap, ◌∙◌, arith, length-append, subst}
use Rattle.std.specs.Prelude.{ℤ, pos, negsuc}
use Rattle.std.specs.Int.{complement_if}
use Rattle.std.proofs.lemmas.List.{take_more, length-take}
use Rattle.std.proofs.lemmas.Bool.{cases_lt}
use Rattle.std.proofs.lemmas.Nat.{mul-le}
use Rattle.std.proofs.Math.Nat.{pow-le-pow_right}
use Rattle.bcder.specs.x690.Identifier.{AreOctets}
use Rattle.bcder.specs.x690.Length.{big_endian}
use Rattle.bcder.specs.x690.Integer.{number, AreInteger, Leads, octet}
use Rattle.bcder.specs.x690.Number.{magnitude, HasMagnitude, IsNoNumber}
use Rattle.bcder.specs.laws.Integers.{Sized, Told, positive, negative, told_by, number_positive, number_negative}

magnitude_snoc : (neg : Bool) (w : List ℕ) (d : ℕ) → magnitude neg (w ++ d ∷ []) ≡ magnitude neg w * 256 + octet neg d
magnitude_snoc neg [] d = omega arith
magnitude_snoc neg (b ∷ w) d =
    let r = magnitude_snoc neg w d in
    let l : length (w ++ d ∷ []) ≡ suc (length w) = omega (arith, length-append w (d ∷ [])) in
    let p : 256 ^ suc (length w) ≡ 256 * 256 ^ length w = omega arith in
    let q : octet neg b * 256 ^ length (w ++ d ∷ []) ≡ octet neg b * (256 * 256 ^ length w) = ap (λ k. octet neg b * 256 ^ k) l ∙ ap (λ x. octet neg b * x) p in
    omega (arith, q, r)

pub magnitude_step : (neg : Bool) (w : List ℕ) (i : ℕ) → i < length w
    → magnitude neg (take (i + 1) w) ≡ magnitude neg (take i w) * 256 + octet neg (get_or w i 0)
magnitude_step neg w i l = rw (take_more w i 0 l) (magnitude_snoc neg (take i w) (get_or w i 0))

octet_below : (neg : Bool) (b : ℕ) → b < 256 → octet neg b < 256
octet_below true b h = omega arith
octet_below false b h = h

pub magnitude_lt : (neg : Bool) (w : List ℕ) → AreOctets w → magnitude neg w < 256 ^ length w
magnitude_lt neg [] h = omega arith
magnitude_lt neg (b ∷ w) h =
    let r = magnitude_lt neg w (λ i. h (suc i)) in
    let m = mul-le (octet neg b) (256 ^ length w) 255 (256 ^ length w) (let l = octet_below neg b (h 0) in omega arith) (omega arith) in
    let p : 256 ^ suc (length w) ≡ 256 * 256 ^ length w = omega arith in
    omega arith

AreOctets-take : (w : List ℕ) (i : ℕ) → AreOctets w → AreOctets (take i w)
AreOctets-take [] zero o j = o j
AreOctets-take [] (suc i) o j = o j
AreOctets-take (b ∷ w) zero o j = omega arith
AreOctets-take (b ∷ w) (suc i) o zero = o 0
AreOctets-take (b ∷ w) (suc i) o (suc j) = AreOctets-take w i (λ k. o (suc k)) j

-- magnitude of at most 16 octets fits 128 bits, on the way too
pub magnitude_fits : (neg : Bool) (w : List ℕ) (i : ℕ) → AreOctets w → length w ≤ 16 → i < length w → (magnitude neg (take i w) * 256 + 255 < 2 ^ 128)
magnitude_fits neg w i o l k =
    let below = magnitude_lt neg (take i w) (AreOctets-take w i o) in
    let count : length (take i w) ≡ i = omega (arith, length-take i w) in
    let power : 256 ^ length (take i w) ≤ 256 ^ 15 = pow-le-pow_right (omega arith) (let s : length (take i w) ≤ 15 = omega arith in s) in
    omega arith

-- and of at most 8 octets 64 bits
pub short_magnitude_fits : (neg : Bool) (w : List ℕ) (i : ℕ) → AreOctets w → length w ≤ 8 → i < length w → (magnitude neg (take i w) * 256 + 255 < 2 ^ 64)
short_magnitude_fits neg w i o l k =
    let below = magnitude_lt neg (take i w) (AreOctets-take w i o) in
    let count : length (take i w) ≡ i = omega (arith, length-take i w) in
    let power : 256 ^ length (take i w) ≤ 256 ^ 7 = pow-le-pow_right (omega arith) (let s : length (take i w) ≤ 7 = omega arith in s) in
    omega arith

magnitude_false : (w : List ℕ) → big_endian w ≡ magnitude false w
magnitude_false [] = refl
magnitude_false (b ∷ w) = ap (λ x. b * 256 ^ length w + x) (magnitude_false w)

magnitude_true : (w : List ℕ) → AreOctets w → big_endian w + magnitude true w + 1 ≡ 256 ^ length w
magnitude_true [] o = omega arith
magnitude_true (b ∷ w) o =
    let r = magnitude_true w (λ i. o (suc i)) in
    let h = o 0 in
    let both : (b + (255 - b)) * 256 ^ length w ≡ 255 * 256 ^ length w = ap (λ x. x * 256 ^ length w) (let s : b + (255 - b) ≡ 255 = omega arith in s) in
    let p : 256 ^ suc (length w) ≡ 256 * 256 ^ length w = omega arith in
    omega (arith, both, r, p)

-- octets tell their number by its sign and magnitude
pub told_parts : (neg : Bool) (w : List ℕ) → AreOctets w → Leads neg w → number w ≡ complement_if neg (magnitude neg w)
told_parts false w o l = number_positive w _ l (magnitude_false w)
told_parts true w o l = number_negative w _ l (magnitude_true w o)

-- a leading octet that tells nothing
pub dropped_parts : (neg : Bool) (w : List ℕ) → octet neg (get_or w 0 0) ≡ 0 → magnitude neg (drop 1 w) ≡ magnitude neg w
dropped_parts neg [] e = refl
dropped_parts neg (b ∷ w) e = rw e (omega arith)

magnitude_is : (neg : Bool) (z : ℤ) (w : List ℕ) → AreOctets w → Leads neg w → AreInteger z w → z ≡ complement_if neg (magnitude neg w)
magnitude_is neg z w o l a = sym a.is ∙ told_parts neg w o l

leading : (neg : Bool) (w : List ℕ) → length w ≡ 17 → octet neg (get_or w 0 0) ≢ 0 → 256 ^ 16 ≤ magnitude neg w
leading neg [] l h = absurd (omega arith)
leading neg (b ∷ w) l h =
    let m = mul-le 1 (256 ^ 16) (octet neg b) (256 ^ 16) (omega arith) (omega arith) in
    let p : 256 ^ length w ≡ 256 ^ 16 = ap (λ k. 256 ^ k) (let s : length w ≡ 16 = omega arith in s) in
    let q : octet neg b * 256 ^ length w ≡ octet neg b * 256 ^ 16 = ap (λ k. octet neg b * k) p in
    omega (arith, m, q)

longer : (n : ℕ) (w : List ℕ) → Sized n w → 18 ≤ length w → 2 ^ 128 ≤ n
longer n w s l =
    let least = s.least (omega arith) in
    let p : 256 ^ 18 ≤ 256 ^ length w = pow-le-pow_right (omega arith) l in
    omega (arith, least, p)

sized : (z : ℤ) (w : List ℕ) → Told w z → 18 ≤ length w → HasMagnitude z → ⊥
sized (pos n) w (positive _ l s e) k h = omega (arith, longer n w s k, h)
sized (negsuc n) w (negative _ l s e) k h = omega (arith, longer n w s k, h)

seventeen : (neg : Bool) (m : ℕ) → 256 ^ 16 ≤ m → HasMagnitude (complement_if neg m) → ⊥
seventeen false m l h = omega (arith, l, h)
seventeen true m l h = omega (arith, l, h)

-- a number of 17 octets whose first tells something, or of more, has a magnitude of more than 128 bits
pub too_large : (neg : Bool) (w : List ℕ) → AreOctets w → Leads neg w → 16 < length w → (length w ≡ 17 → octet neg (get_or w 0 0) ≢ 0)
    → IsNoNumber HasMagnitude w
too_large neg w o l long top z a h = elim (cases_lt (length w) 18) [
  | inl short ↦ (
      let count : length w ≡ 17 = omega arith in
      seventeen neg (magnitude neg w) (leading neg w count (top count)) (subst HasMagnitude (magnitude_is neg z w o l a) h))
  | inr more ↦ sized z w (told_by z w o a) more h
]
