-- Digits in base 128, put one behind the other.
use Rattle.std.proofs.Common.{◌≡◌, ℕ, ◌+◌, ◌*◌, ◌/◌, ◌%◌, ◌<◌, ◌≤◌, List, [], ◌∷◌, ◌++◌, length, get_or, refl, ap, sym, ◌∙◌, append_assoc, length-append, arith}
use Rattle.bcder.specs.x690.ObjectIdentifier.{number_after, subidentifier_number, IsWhole}
use Rattle.bcder.specs.steps.Pushed.{AreMarked, AppendsDigits, AppendsSubidentifier}

pub number-append : (high : ℕ) (v w : List ℕ) → number_after high (v ++ w) ≡ number_after (number_after high v) w
number-append high [] w = refl
number-append high (b ∷ v) w = number-append (128 * high + b % 128) v w

pub marked-push : (w : List ℕ) (b : ℕ) → AreMarked w → 0x80 ≤ b → b < 0x100 → AreMarked (w ++ b ∷ [])
marked-push [] b m l h = (l, h, tt)
marked-push (c ∷ w) b (lo, hi, m) l h = (lo, hi, marked-push w b m l h)

pub whole-push : (w : List ℕ) (b : ℕ) → AreMarked w → b < 0x80 → IsWhole (w ++ b ∷ [])
whole-push [] b m l = l
whole-push (c ∷ []) b (lo, hi, m) l = (lo, hi, l)
whole-push (c ∷ d ∷ w) b (lo, hi, m) l = (lo, hi, whole-push (d ∷ w) b m l)

first-append : (w x : List ℕ) → 0 < length w → get_or (w ++ x) 0 0 ≡ get_or w 0 0
first-append [] x h = absurd (omega arith)
first-append (c ∷ w) x h = refl

last_digit : (n : ℕ) (w : List ℕ) (b : ℕ) → subidentifier_number w ≡ n / 128 → b % 128 ≡ n % 128 → subidentifier_number (w ++ b ∷ []) ≡ n
last_digit n w b e d = number-append 0 w (b ∷ []) ∙ omega arith

-- the digits of a number, from those before its last one
pub digits_one : (old new : List ℕ) (n : ℕ) → 0 < n → n < 128 → new ≡ old ++ (128 + n % 128) ∷ [] → AppendsDigits old new n
digits_one old new n p l e =
    ((128 + n % 128) ∷ [], record { marked = (omega arith, omega arith, tt); some = omega arith; value = omega arith; fewest = λ z. omega arith }, e)

pub digits_more : (old mid new : List ℕ) (n : ℕ) → 128 ≤ n → AppendsDigits old mid (n / 128) → new ≡ mid ++ (128 + n % 128) ∷ [] → AppendsDigits old new n
digits_more old mid new n l (w, d, m) e =
    let b = 128 + n % 128 in
    let s : get_or (w ++ b ∷ []) 0 0 ≡ get_or w 0 0 = first-append w (b ∷ []) d.some in (
      w ++ b ∷ [],
      record {
        marked = marked-push w b d.marked (omega arith) (omega arith);
        some = omega (arith, length-append w (b ∷ []));
        value = last_digit n w b d.value (omega arith);
        fewest = λ z. d.fewest (sym s ∙ z);
      },
      e ∙ ap (λ u. u ++ b ∷ []) m ∙ append_assoc old w (b ∷ []),
    )

pub subidentifier_one : (old new : List ℕ) (n : ℕ) → n < 128 → new ≡ old ++ (n % 128) ∷ [] → AppendsSubidentifier old new n
subidentifier_one old new n l e = ((n % 128) ∷ [], record { whole = omega arith; value = omega arith; fewest = λ z. omega arith }, e)

pub subidentifier_more : (old mid new : List ℕ) (n : ℕ) → 128 ≤ n → AppendsDigits old mid (n / 128) → new ≡ mid ++ (n % 128) ∷ []
    → AppendsSubidentifier old new n
subidentifier_more old mid new n l (w, d, m) e =
    let b = n % 128 in
    let s : get_or (w ++ b ∷ []) 0 0 ≡ get_or w 0 0 = first-append w (b ∷ []) d.some in (
      w ++ b ∷ [],
      record { whole = whole-push w b d.marked (omega arith); value = last_digit n w b d.value (omega arith); fewest = λ z. d.fewest (sym s ∙ z) },
      e ∙ ap (λ u. u ++ b ∷ []) m ∙ append_assoc old w (b ∷ []),
    )
