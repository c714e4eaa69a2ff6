-- Contents octets mean one value at most.
use Rattle.std.proofs.Common.{◌≡◌, ℕ, zero, suc, ◌+◌, ◌*◌, ◌/◌, ◌%◌, ◌^◌, ◌<◌, Bool, true, false, ◌==◌, if◌then◌else◌, min}
use Rattle.std.proofs.Common.{List, [], ◌∷◌, get_or, refl, sym, ap, ◌∙◌, subst, arith, Option, Some, None, inl, inr}
use Rattle.std.proofs.Common.{ℤ, pos, ◌+ℤ◌, ◌*ℤ◌, ◌⊎◌, ◌≤◌}
use Rattle.std.specs.Prelude.{nat_lt}
use Rattle.std.proofs.Math.Nat.{pow-succ'}
use Rattle.real.specs.Number.{BinaryNumber, DecimalNumber}
use Rattle.real.specs.Octets.{unsigned, signed, parts}
use Rattle.real.specs.Contents.{IsBase, IsBinary, MeansBinary, MeansDecimal, Means, real_octets, IsReal}
use Rattle.real.specs.Decimal.{IsTail}
use Rattle.real.specs.declared.value.Real.{Real}
use Rattle.real.specs.declared.value.Real.TheVariants.{Zero, MinusZero, Infinity, MinusInfinity, NotANumber, Binary, Decimal}
use Rattle.real.proofs.Numbers.{twice}
use Rattle.real.proofs.Decimals.{means_decimal_one}

abbrev pub Parts : Type 0
Parts = Option (List ℕ × List ℕ)

first_of_pair : Option (List ℕ × List ℕ) → List ℕ
first_of_pair (Some p) = p.0
first_of_pair None = []

second_of_pair : Option (List ℕ × List ℕ) → List ℕ
second_of_pair (Some p) = p.1
second_of_pair None = []

pub same_first : (a b c d : List ℕ) → ◌≡◌ {A = Parts} (Some (a, b)) (Some (c, d)) → a ≡ c
unfolding first_of_pair
same_first a b c d e = ap first_of_pair e

pub same_second : (a b c d : List ℕ) → ◌≡◌ {A = Parts} (Some (a, b)) (Some (c, d)) → b ≡ d
unfolding second_of_pair
same_second a b c d e = ap second_of_pair e

doubling : (m j : ℕ) → m * 2 ^ suc j ≡ 2 * (m * 2 ^ j)
doubling m j = rw (pow-succ' 2 j) (twice m (2 ^ j))

-- an odd number and a power of two have one product
pub odd_one : (m n j k : ℕ) → m % 2 ≡ 1 → n % 2 ≡ 1 → m * 2 ^ j ≡ n * 2 ^ k → (m ≡ n) × (j ≡ k)
odd_one m n zero zero p q e = (omega arith, refl)
odd_one m n zero (suc k) p q e = let d = doubling n k in absurd (omega arith)
odd_one m n (suc j) zero p q e = let d = doubling m j in absurd (omega arith)
odd_one m n (suc j) (suc k) p q e =
    let c = doubling m j in
    let d = doubling n k in
    let h = odd_one m n j k p q (omega arith) in
    (h.0, ap suc h.1)

-- zero is no product of an odd number and a power of two
pub no_odd : (n m p : ℕ) → n ≡ 0 → n ≡ m * 2 ^ p → m % 2 ≡ 1 → ⊥
no_odd n m zero z e o = omega arith
no_odd n m (suc p) z e o = let d = doubling m p in no_odd n m p z (omega arith) o

pub base_one : (b k l : ℕ) → IsBase b k → IsBase b l → k ≡ l
base_one b k l (inl h) (inl i) = omega arith
base_one b k l (inl h) (inr (inl i)) = omega arith
base_one b k l (inl h) (inr (inr i)) = omega arith
base_one b k l (inr (inl h)) (inl i) = omega arith
base_one b k l (inr (inl h)) (inr (inl i)) = omega arith
base_one b k l (inr (inl h)) (inr (inr i)) = omega arith
base_one b k l (inr (inr h)) (inl i) = omega arith
base_one b k l (inr (inr h)) (inr (inl i)) = omega arith
base_one b k l (inr (inr h)) (inr (inr i)) = omega arith

-- what the parts of the octets make of the number
pub record AreParts (first : ℕ) (rest e m : List ℕ) (odd power k : ℕ) : Type 0 where
  pub parts : parts (first % 4) rest ≡ Some (e, m)
  pub is_odd : odd % 2 ≡ 1
  pub mantissa : unsigned m ≡ odd * 2 ^ power
  pub base : IsBase (first / 16 % 4) k

pub same_mantissa : (first : ℕ) (rest e m : List ℕ) (odd power k : ℕ) (x : BinaryNumber) → AreParts first rest e m odd power k
    → (h : IsBinary first rest x) → (x.mantissa ≡ odd) × (h.power ≡ power)
same_mantissa first rest e m odd power k x p h =
    let second : h.mantissa ≡ m = same_second h.exponent h.mantissa e m (sym h.parts ∙ p.parts) in
    odd_one x.mantissa odd h.power power h.held.odd p.is_odd (sym h.mantissa_is ∙ ap unsigned second ∙ p.mantissa)

pub same_exponent : (first : ℕ) (rest e m : List ℕ) (odd power k : ℕ) (x : BinaryNumber) → AreParts first rest e m odd power k
    → (h : IsBinary first rest x) → x.exponent ≡ (signed e *ℤ pos k) +ℤ pos (first / 4 % 4 + power)
same_exponent first rest e m odd power k x p h =
    let one : h.exponent ≡ e = same_first h.exponent h.mantissa e m (sym h.parts ∙ p.parts) in
    let base = base_one (first / 16 % 4) h.base k h.is_base p.base in
    let powers = (same_mantissa first rest e m odd power k x p h).1 in
    h.exponent_is ∙ rw (one, base, powers) refl

pub same_number : (x y : BinaryNumber) → x.negative ≡ y.negative → x.mantissa ≡ y.mantissa → x.exponent ≡ y.exponent → x ≡ y
same_number x y a b c =
    let z : BinaryNumber = record { negative = y.negative; mantissa = y.mantissa; exponent = y.exponent } in
    let e : x ≡ z = rw (← a, ← b, ← c) refl in
    e

pub binary_one : (first : ℕ) (rest : List ℕ) (x y : BinaryNumber) → IsBinary first rest x → IsBinary first rest y → x ≡ y
binary_one first rest x y h k =
    let p : AreParts first rest k.exponent k.mantissa y.mantissa k.power k.base =
    record { parts = k.parts; is_odd = k.held.odd; mantissa = k.mantissa_is; base = k.is_base } in
    same_number x y (h.sign ∙ sym k.sign) (same_mantissa first rest k.exponent k.mantissa y.mantissa k.power k.base x p h).0
    (same_exponent first rest k.exponent k.mantissa y.mantissa k.power k.base x p h ∙ sym k.exponent_is)

pub means_binary_one : (w : List ℕ) (x y : BinaryNumber) → MeansBinary w x → MeansBinary w y → x ≡ y
means_binary_one [] x y h k = absurd h
means_binary_one (first ∷ rest) x y h k = binary_one first rest x y h k

-- ---- by the first octet

pub kind : Real → ℕ
kind Zero = 0
kind Infinity = 64
kind MinusInfinity = 65
kind NotANumber = 66
kind MinusZero = 67
kind (Binary x) = 128
kind (Decimal x) = 1

of_kind : ℕ → Real
of_kind n =
    if n == 0 then Zero
    else (if n == 64 then Infinity else (if n == 65 then MinusInfinity else (if n == 66 then NotANumber else MinusZero)))

-- the kind of what octets mean that begin so
abbrev pub kind_of : List ℕ → ℕ
kind_of w = if nat_lt (get_or w 0 0) 4 then min (get_or w 0 0) 1 else min (get_or w 0 0) 128

form_range : (form : ℕ) (t f : List ℕ) (z : ℤ) → IsTail form t f z → (1 ≤ form) × (form < 4)
form_range form t f z (inl h) = (omega arith, omega arith)
form_range form t f z (inr h) = elim h.is_scale [ inl s ↦ (omega (arith, s.0), omega (arith, s.0)) | inr s ↦ (omega (arith, s.0), omega (arith, s.0)) ]

kind_low : (first : ℕ) (w : List ℕ) → 1 ≤ first → first < 4 → kind_of (first ∷ w) ≡ 1
kind_low first w h k = grind arith

kind_high : (first : ℕ) (w : List ℕ) → 128 ≤ first → kind_of (first ∷ w) ≡ 128
kind_high first w h = grind arith

pub first_is_kind : (w : List ℕ) (x : Real) → Means w x → kind_of w ≡ kind x
unfolding kind
first_is_kind w Zero h = ap kind_of h
first_is_kind w Infinity h = ap kind_of h
first_is_kind w MinusInfinity h = ap kind_of h
first_is_kind w NotANumber h = ap kind_of h
first_is_kind w MinusZero h = ap kind_of h
first_is_kind [] (Binary x) h = absurd h
first_is_kind (first ∷ rest) (Binary x) h = kind_high first rest h.binary
first_is_kind [] (Decimal x) h = absurd h
first_is_kind (first ∷ rest) (Decimal x) h =
    let f = form_range first h.tail h.fraction h.scale h.is_tail in
    kind_low first rest f.0 f.1

special : (x : Real) → 1 < kind x ⊎ (kind x ≡ 0) → kind x < 128 → x ≡ of_kind (kind x)
unfolding kind of_kind
special Zero k h = refl
special Infinity k h = refl
special MinusInfinity k h = refl
special NotANumber k h = refl
special MinusZero k h = refl
special (Binary x) k h = absurd (omega arith)
special (Decimal x) (inl k) h = absurd (omega arith)
special (Decimal x) (inr k) h = absurd (omega arith)

is_binary : (x : Real) → kind x ≡ 128 → (a : BinaryNumber) × (x ≡ Binary a)
unfolding kind
is_binary Zero h = absurd (omega arith)
is_binary Infinity h = absurd (omega arith)
is_binary MinusInfinity h = absurd (omega arith)
is_binary NotANumber h = absurd (omega arith)
is_binary MinusZero h = absurd (omega arith)
is_binary (Binary x) h = (x, refl)
is_binary (Decimal x) h = absurd (omega arith)

is_decimal : (x : Real) → kind x ≡ 1 → (a : DecimalNumber) × (x ≡ Decimal a)
unfolding kind
is_decimal Zero h = absurd (omega arith)
is_decimal Infinity h = absurd (omega arith)
is_decimal MinusInfinity h = absurd (omega arith)
is_decimal NotANumber h = absurd (omega arith)
is_decimal MinusZero h = absurd (omega arith)
is_decimal (Binary x) h = absurd (omega arith)
is_decimal (Decimal x) h = (x, refl)

same_special : (x y : Real) → kind x ≡ kind y → 1 < kind y ⊎ (kind y ≡ 0) → kind y < 128 → x ≡ y
same_special x y e k h =
    special x (subst (λ n. 1 < n ⊎ (n ≡ 0)) (sym e) k) (omega arith) ∙ ap of_kind e ∙ sym (special y k h)

pub means_one : (w : List ℕ) (x y : Real) → Means w x → Means w y → x ≡ y
unfolding kind
means_one w x Zero h k = same_special x Zero (sym (first_is_kind w x h) ∙ first_is_kind w Zero k) (inr refl) (omega arith)
means_one w x Infinity h k = same_special x Infinity (sym (first_is_kind w x h) ∙ first_is_kind w Infinity k) (inl (omega arith)) (omega arith)
means_one w x MinusInfinity h k =
    same_special x MinusInfinity (sym (first_is_kind w x h) ∙ first_is_kind w MinusInfinity k) (inl (omega arith)) (omega arith)
means_one w x NotANumber h k = same_special x NotANumber (sym (first_is_kind w x h) ∙ first_is_kind w NotANumber k) (inl (omega arith)) (omega arith)
means_one w x MinusZero h k = same_special x MinusZero (sym (first_is_kind w x h) ∙ first_is_kind w MinusZero k) (inl (omega arith)) (omega arith)
means_one w x (Binary y) h k =
    let b = is_binary x (sym (first_is_kind w x h) ∙ first_is_kind w (Binary y) k) in
    let m : MeansBinary w b.0 = subst (Means w) b.1 h in
    b.1 ∙ ap Binary (means_binary_one w b.0 y m k)
means_one w x (Decimal y) h k =
    let b = is_decimal x (sym (first_is_kind w x h) ∙ first_is_kind w (Decimal y) k) in
    let m : MeansDecimal w b.0 = subst (Means w) b.1 h in
    b.1 ∙ ap Decimal (means_decimal_one w b.0 y m k)

pub canonical_parts : (canonical : Bool) (w : List ℕ) (x : Real) → canonical ≡ true → IsReal canonical w x → Means w x × (w ≡ real_octets x)
canonical_parts true w x e h = h
canonical_parts false w x e h = absurd (cc)

pub means_of : (canonical : Bool) (w : List ℕ) (x : Real) → IsReal canonical w x → Means w x
means_of true w x h = h.0
means_of false w x h = h

pub real_one : (canonical : Bool) (w : List ℕ) (x y : Real) → IsReal canonical w x → IsReal canonical w y → x ≡ y
real_one canonical w x y h k = means_one w x y (means_of canonical w x h) (means_of canonical w y k)

pub real_once : (x y : Real) (v w : List ℕ) → IsReal true v x → IsReal true w y → x ≡ y → v ≡ w
real_once x y v w h k e = h.1 ∙ ap real_octets e ∙ sym k.1
