-- Octets mean one decimal number at most.
use Rattle.std.proofs.Common.{◌≡◌, ℕ, ◌≤◌, Bool}
use Rattle.std.proofs.Common.{List, [], ◌∷◌, ◌++◌, length, take, drop, replicate, refl, sym, ap, ◌∙◌, subst, arith, inl, inr}
use Rattle.std.proofs.Common.{ℤ, pos, ◌+ℤ◌}
use Rattle.std.proofs.lemmas.Int.{ints}
use Rattle.std.proofs.lemmas.List.{take_at, drop_at, append-nil, length-replicate}
use Rattle.std.specs.List.{prefix_len}
use Rattle.real.specs.Number.{DecimalNumber, IsDecimalNumber}
use Rattle.real.specs.Decimal.{is_digit, AreDigits, number, IsSign, IsScale, IsMarked, IsTail, IsDecimal}
use Rattle.real.specs.Scan.{is_minus, behind_sign, unspaced, whole_of, tail_of, IsMantissa}
use Rattle.real.specs.Contents.{MeansDecimal}
use Rattle.real.proofs.Texts.{ten_one, digits_front, spaces_front, sign_front, digits_start, tail_starts, Starts}

-- ---- the scale

same_rest : (a b : ℕ) (v w : List ℕ) → a ∷ v ≡ b ∷ w → v ≡ w
same_rest a b v w e = cc

nothing_starts : Starts []
nothing_starts = record { no_space = refl; no_minus = refl; no_sign = refl }

digits_alone : (w : List ℕ) → AreDigits w → Starts w
digits_alone w d = subst Starts (append-nil w) (digits_start w [] d nothing_starts)

-- what is found behind the letter
pub record FoundScale (w d : List ℕ) (negative : Bool) : Type 0 where
  pub minus : is_minus w ≡ negative
  pub digits : behind_sign w ≡ d

pub found_scale : (letter : ℕ) (w : List ℕ) (z : ℤ) → (h : IsScale (letter ∷ w) z) → FoundScale w h.digits h.negative
found_scale letter w z h =
    let s = sign_front h.sign h.digits h.negative h.is_sign (digits_alone h.digits h.is_exponent.are_digits) in
    let e : w ≡ h.sign ++ h.digits = same_rest letter h.letter w (h.sign ++ h.digits) h.octets in
    record { minus = ap is_minus e ∙ s.1; digits = ap behind_sign e ∙ s.2 }

pub scale_one : (w : List ℕ) (y z : ℤ) → IsScale w y → IsScale w z → y ≡ z
scale_one [] y z h k = absurd (cc (h.octets))
scale_one (letter ∷ w) y z h k =
    let f = found_scale letter w y h in
    let g = found_scale letter w z k in
    let n : h.negative ≡ k.negative = sym f.minus ∙ g.minus in
    let d : h.digits ≡ k.digits = sym f.digits ∙ g.digits in
    let e : h.size ≡ k.size = h.is_exponent.value ∙ ap number d ∙ sym k.is_exponent.value in
    h.value ∙ rw (n, e) refl ∙ sym k.value

no_digit_scale : (w : List ℕ) (z : ℤ) → IsScale w z → prefix_len is_digit w ≡ 0
no_digit_scale w z h = elim h.is_letter [ inl e ↦ rw (h.octets, e) refl | inr e ↦ rw (h.octets, e) refl ]

-- ---- behind the first digits

no_digit : (form : ℕ) (w f : List ℕ) (z : ℤ) → (h : IsMarked form w f z) → prefix_len is_digit h.scale ≡ 0
no_digit form w f z h = elim h.is_scale [ inl s ↦ rw s.1 refl | inr s ↦ no_digit_scale h.scale z s.1 ]

-- what is found behind the mark
pub record FoundMark (w f s : List ℕ) : Type 0 where
  pub count : prefix_len is_digit w ≡ length f
  pub fraction : take (prefix_len is_digit w) w ≡ f
  pub scale : drop (prefix_len is_digit w) w ≡ s

found_at : (w f s : List ℕ) → w ≡ f ++ s → AreDigits f → prefix_len is_digit s ≡ 0 → FoundMark w f s
found_at w f s e d n =
    let c : prefix_len is_digit w ≡ length f = ap (prefix_len is_digit) e ∙ digits_front f s d n in
    record {
      count = c;
      fraction = rw (c, e) (take_at f s (length f) refl);
      scale = rw (c, e) (drop_at f s (length f) refl);
    }

pub found_mark : (form mark : ℕ) (w f : List ℕ) (z : ℤ) → (h : IsMarked form (mark ∷ w) f z) → FoundMark w f h.scale
found_mark form mark w f z h =
    found_at w f h.scale (same_rest mark h.mark w (f ++ h.scale) h.octets) h.are_digits (no_digit form (mark ∷ w) f z h)

pub with_scale : (form mark : ℕ) (w v f : List ℕ) (z : ℤ) → w ≡ mark ∷ v → form ≡ 3 → IsMarked form w f z
    → IsScale (drop (prefix_len is_digit v) v) z
with_scale form mark w v f z e t h =
    let k = subst (λ w. IsMarked form w f z) e h in
    let g = found_mark form mark v f z k in
    elim k.is_scale [ inl p ↦ absurd (omega (arith, p.0)) | inr p ↦ subst (λ s. IsScale s z) (sym g.scale) p.1 ]

pub without_scale : (form mark : ℕ) (w v f : List ℕ) (z : ℤ) → w ≡ mark ∷ v → form ≡ 2 → IsMarked form w f z → length v ≤ prefix_len is_digit v
without_scale form mark w v f z e t h =
    let k = subst (λ w. IsMarked form w f z) e h in
    let g = found_mark form mark v f z k in
    elim k.is_scale [
      | inl p ↦ let l : v ≡ f = same_rest mark k.mark v (f ++ k.scale) k.octets ∙ rw p.1 (append-nil f) in
          let n : length v ≡ length f = ap length l in
          let c = g.count in omega arith
      | inr p ↦ absurd (omega (arith, p.0))
    ]

marked_one : (form mark : ℕ) (w f g : List ℕ) (y z : ℤ) → IsMarked form (mark ∷ w) f y → IsMarked form (mark ∷ w) g z → (f ≡ g) × (y ≡ z)
marked_one form mark w f g y z h k =
    let a = found_mark form mark w f y h in
    let b = found_mark form mark w g z k in
    let s : h.scale ≡ k.scale = sym a.scale ∙ b.scale in (
      sym a.fraction ∙ b.fraction,
      elim h.is_scale [
        | inl p ↦ elim k.is_scale [ inl q ↦ p.2 ∙ sym q.2 | inr q ↦ absurd (omega (arith, p.0, q.0)) ]
        | inr p ↦ elim k.is_scale [
          | inl q ↦ absurd (omega (arith, p.0, q.0))
          | inr q ↦ scale_one k.scale y z (subst (λ w. IsScale w y) s p.1) q.1
        ]
      ],
    )

marked_form : (form : ℕ) (w f : List ℕ) (z : ℤ) → IsMarked form w f z → form ≡ 1 → ⊥
marked_form form w f z h e = elim h.is_scale [ inl p ↦ omega (arith, p.0) | inr p ↦ omega (arith, p.0) ]

pub tail_one : (form : ℕ) (w f g : List ℕ) (y z : ℤ) → IsTail form w f y → IsTail form w g z → (f ≡ g) × (y ≡ z)
tail_one form w f g y z (inl h) (inl k) = (h.2 ∙ sym k.2, h.3 ∙ sym k.3)
tail_one form w f g y z (inl h) (inr k) = absurd (marked_form form w g z k h.0)
tail_one form w f g y z (inr h) (inl k) = absurd (marked_form form w f y h k.0)
tail_one form [] f g y z (inr h) (inr k) = absurd (cc (h.octets))
tail_one form (mark ∷ w) f g y z (inr h) (inr k) = marked_one form mark w f g y z h k

-- ---- the number

-- what is found in front
pub record Found (w a t : List ℕ) (negative : Bool) : Type 0 where
  pub minus : is_minus (unspaced w) ≡ negative
  pub whole : whole_of w ≡ a
  pub tail : tail_of w ≡ t

found_in : (n : ℕ) (v a t : List ℕ) (negative : Bool) → IsSign v negative → AreDigits a → Starts t → prefix_len is_digit t ≡ 0
    → Found (replicate n 0x20 ++ (v ++ (a ++ t))) a t negative
found_in n v a t negative i d s z =
    let f = sign_front v (a ++ t) negative i (digits_start a t d s) in
    let c = spaces_front n (v ++ (a ++ t)) f.0 in
    let o = drop_at (replicate n 0x20) (v ++ (a ++ t)) n (length-replicate n 0x20) in
    let p = digits_front a t d z in
    record {
      minus = rw (c, o) f.1;
      whole = rw (c, o, f.2, p) (take_at a t (length a) refl);
      tail = rw (c, o, f.2, p) (drop_at a t (length a) refl);
    }

pub found : (form : ℕ) (w : List ℕ) (x : DecimalNumber) → (h : IsDecimal form w x) → Found w h.whole h.tail x.negative
found form w x h =
    let s = tail_starts form h.tail h.fraction h.scale h.is_tail in
    subst (λ w. Found w h.whole h.tail x.negative) (sym h.octets) (found_in h.spaces h.sign h.whole h.tail x.negative h.is_sign h.are_digits s.0 s.1)

same_number : (x y : DecimalNumber) → x.negative ≡ y.negative → x.mantissa ≡ y.mantissa → x.exponent ≡ y.exponent → x ≡ y
same_number x y a b c =
    let z : DecimalNumber = record { negative = y.negative; mantissa = y.mantissa; exponent = y.exponent } in
    let e : x ≡ z = rw (← a, ← b, ← c) refl in
    e

same_exponent : (a b s : ℤ) (n p : ℕ) → a +ℤ pos n ≡ s +ℤ pos p → b +ℤ pos n ≡ s +ℤ pos p → a ≡ b
same_exponent a b s n p h k = omega (arith, ints)

pub decimal_one : (form : ℕ) (w : List ℕ) (x y : DecimalNumber) → IsDecimal form w x → IsDecimal form w y → x ≡ y
decimal_one form w x y h k =
    let a = found form w x h in
    let b = found form w y k in
    let whole : h.whole ≡ k.whole = sym a.whole ∙ b.whole in
    let tail : h.tail ≡ k.tail = sym a.tail ∙ b.tail in
    let t = tail_one form k.tail h.fraction k.fraction h.scale k.scale (subst (λ w. IsTail form w h.fraction h.scale) tail h.is_tail) k.is_tail in
    let n : number (h.whole ++ h.fraction) ≡ number (k.whole ++ k.fraction) = rw (whole, t.0) refl in
    let m = ten_one x.mantissa y.mantissa h.power k.power h.held.last k.held.last (sym h.mantissa_is ∙ n ∙ k.mantissa_is) in
    let e = rw (t.0, t.1, m.1) at h.exponent_is in
    same_number x y (sym a.minus ∙ b.minus) m.0 (same_exponent x.exponent y.exponent k.scale (length k.fraction) k.power e k.exponent_is)

-- what is found of a number, with what is read of its tail
pub record Parts (form : ℕ) (w f : List ℕ) (z : ℤ) (x : DecimalNumber) : Type 0 where
  pub power : ℕ
  pub mantissa : IsMantissa (whole_of w ++ f) x.mantissa power
  pub exponent : x.exponent +ℤ pos (length f) ≡ z +ℤ pos power
  pub held : IsDecimalNumber x

pub tail_found : (form : ℕ) (w : List ℕ) (x : DecimalNumber) → (h : IsDecimal form w x) → IsTail form (tail_of w) h.fraction h.scale
tail_found form w x h = subst (λ t. IsTail form t h.fraction h.scale) (sym (found form w x h).tail) h.is_tail

pub parts_found : (form : ℕ) (w f : List ℕ) (z : ℤ) (x : DecimalNumber) → IsTail form (tail_of w) f z → IsDecimal form w x → Parts form w f z x
parts_found form w f z x t h =
    let a = found form w x h in
    let o = tail_one form (tail_of w) h.fraction f h.scale z (tail_found form w x h) t in
    let n : number (whole_of w ++ f) ≡ number (h.whole ++ h.fraction) = rw (a.whole, o.0) refl in
    let e = rw (o.0, o.1) at h.exponent_is in
    record {
      power = h.power;
      mantissa = record { value = n ∙ h.mantissa_is; last = h.held.last; below = h.held.mantissa };
      exponent = e;
      held = h.held;
    }

pub means_decimal_one : (w : List ℕ) (x y : DecimalNumber) → MeansDecimal w x → MeansDecimal w y → x ≡ y
means_decimal_one [] x y h k = absurd h
means_decimal_one (first ∷ rest) x y h k = decimal_one first rest x y h k
