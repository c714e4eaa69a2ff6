-- The fewest octets of a subidentifier.
use Rattle.std.proofs.Common.{◌≡◌, ◌≢◌, ℕ, suc, ◌+◌, ◌*◌, ◌%◌, ◌^◌, ◌<◌, ◌≤◌, List, [], ◌∷◌, length, get_or, refl, ap, sym, ◌∙◌, arith, inl, inr}
use Rattle.std.proofs.Math.Nat.{mul-le-mul_right, pow-le-pow_right}
use Rattle.std.proofs.lemmas.Bool.{cases_order, cases_lt}
use Rattle.std.proofs.lemmas.Grind.{pow_more}
use Rattle.bcder.specs.x690.ObjectIdentifier.{number_after, subidentifier_number, IsWhole}

-- 128 to the number of octets
abbrev weight : List ℕ → ℕ
weight w = 128 ^ length w

more : (b : ℕ) (w : List ℕ) → weight (b ∷ w) ≡ 128 * weight w
more b w =
    let e : weight (b ∷ w) ≡ 128 ^ (length w + 1) = ap (λ n. 128 ^ n) (omega arith) in
    let f : 128 ^ (length w + 1) ≡ weight w * 128 = pow_more 128 (length w) in
    omega arith

-- the first digit
first : (b : ℕ) (w : List ℕ) → subidentifier_number (b ∷ w) ≡ number_after (b % 128) w
first b w = ap (λ n. number_after n w) (omega arith)

-- digits weigh by their places
pub weighed : (high : ℕ) (w : List ℕ) → number_after high w ≡ high * weight w + subidentifier_number w
weighed high [] = omega arith
weighed high (b ∷ w) =
    let s : number_after high (b ∷ w) ≡ number_after (128 * high + b % 128) w = refl in
    let f = first b w in
    let p = weighed (128 * high + b % 128) w in
    let q = weighed (b % 128) w in
    let m = more b w in
    let d : (128 * high + b % 128) * weight w ≡ high * (128 * weight w) + b % 128 * weight w = grind arith in
    let k : high * weight (b ∷ w) ≡ high * (128 * weight w) = ap (λ n. high * n) m in
    omega arith

pub below : (w : List ℕ) → subidentifier_number w < weight w
below [] = omega arith
below (b ∷ w) =
    let f = first b w in
    let q = weighed (b % 128) w in
    let h = below w in
    let m = more b w in
    let l : b % 128 * weight w ≤ 127 * weight w = mul-le-mul_right (weight w) (omega arith) in
    omega arith

-- octets of one digit that isn't 0, or of more of which the first isn't, weigh as much as their places
pub above : (b : ℕ) (w : List ℕ) → 1 ≤ b % 128 → weight w ≤ subidentifier_number (b ∷ w)
above b w h =
    let f = first b w in
    let q = weighed (b % 128) w in
    let l : 1 * weight w ≤ b % 128 * weight w = mul-le-mul_right (weight w) h in
    omega arith

-- a leading digit and the rest are told by their sum
leading : (x y r s p : ℕ) → x * p + r ≡ y * p + s → r < p → s < p → x < y → ⊥
leading x y r s p e l k h = let m : suc x * p ≤ y * p = mul-le-mul_right p h in omega arith

pub same_leading : (x y r s p : ℕ) → x * p + r ≡ y * p + s → r < p → s < p → x ≡ y
same_leading x y r s p e l k =
    elim (cases_order x y) [
      | inl same ↦ same
      | inr (inl less) ↦ absurd (leading x y r s p e l k less)
      | inr (inr more) ↦ absurd (leading y x s r p (sym e) k l more)
    ]

same_octet : (b c : ℕ) (v w : List ℕ) → IsWhole (b ∷ v) → IsWhole (c ∷ w) → length v ≡ length w → b % 128 ≡ c % 128 → b ≡ c
same_octet b c [] [] p q l e = omega arith
same_octet b c [] (d ∷ w) p q l e = absurd (omega arith)
same_octet b c (d ∷ v) [] p q l e = absurd (omega arith)
same_octet b c (d ∷ v) (f ∷ w) (x, y, p) (z, u, q) l e = omega arith

-- octets of one length and number are the same
pub one_of_length : (v w : List ℕ) → IsWhole v → IsWhole w → subidentifier_number v ≡ subidentifier_number w → length v ≡ length w → v ≡ w
one_of_length [] w p q e l = absurd p
one_of_length (b ∷ v) [] p q e l = absurd q
one_of_length (b ∷ []) (c ∷ []) p q e l = ap (λ d. d ∷ []) (omega arith)
one_of_length (b ∷ []) (c ∷ d ∷ w) p q e l = absurd (omega arith)
one_of_length (b ∷ d ∷ v) (c ∷ []) p q e l = absurd (omega arith)
one_of_length (b ∷ d ∷ v) (c ∷ f ∷ w) p q e l =
    let same : length (d ∷ v) ≡ length (f ∷ w) = omega arith in
    let weights : weight (d ∷ v) ≡ weight (f ∷ w) = ap (λ n. 128 ^ n) same in
    let x : subidentifier_number (b ∷ d ∷ v) ≡ b % 128 * weight (d ∷ v) + subidentifier_number (d ∷ v) = first b (d ∷ v) ∙ weighed (b % 128) (d ∷ v) in
    let y : subidentifier_number (c ∷ f ∷ w) ≡ c % 128 * weight (f ∷ w) + subidentifier_number (f ∷ w) = first c (f ∷ w) ∙ weighed (c % 128) (f ∷ w) in
    let k : subidentifier_number (d ∷ v) < weight (f ∷ w) = rw (← weights) (below (d ∷ v)) in
    let m = below (f ∷ w) in
    let s : b % 128 * weight (f ∷ w) + subidentifier_number (d ∷ v) ≡ c % 128 * weight (f ∷ w) + subidentifier_number (f ∷ w) = rw weights at (sym x ∙ e ∙ y) in
    let digit = same_leading (b % 128) (c % 128) (subidentifier_number (d ∷ v)) (subidentifier_number (f ∷ w)) (weight (f ∷ w)) s k m in
    let t : c % 128 * weight (f ∷ w) + subidentifier_number (d ∷ v) ≡ c % 128 * weight (f ∷ w) + subidentifier_number (f ∷ w) = rw digit at s in
    let octet = same_octet b c (d ∷ v) (f ∷ w) p q same digit in
    let rest = one_of_length (d ∷ v) (f ∷ w) p.2 q.2 (omega arith) same in
    ap (λ a. a ∷ d ∷ v) octet ∙ ap (λ l. c ∷ l) rest

-- octets that don't begin with 80 are no more than others of their number
fewer : (v w : List ℕ) → IsWhole v → IsWhole w → subidentifier_number v ≡ subidentifier_number w → get_or v 0 0 ≢ 0x80 → length w < length v → ⊥
fewer [] w p q e n l = omega arith
fewer (b ∷ []) [] p q e n l = q
fewer (b ∷ []) (c ∷ w) p q e n l = omega arith
fewer (b ∷ d ∷ v) w p q e n l =
    let h : weight (d ∷ v) ≤ subidentifier_number (b ∷ d ∷ v) = above b (d ∷ v) (let lo : 0x80 ≤ b = p.0 in let hi : b < 0x100 = p.1 in omega arith) in
    let k = below w in
    let g : weight w ≤ weight (d ∷ v) = pow-le-pow_right (omega arith) (omega arith) in
    omega arith

pub no_fewer : (v w : List ℕ) → IsWhole v → IsWhole w → subidentifier_number v ≡ subidentifier_number w → get_or v 0 0 ≢ 0x80 → length v ≤ length w
no_fewer v w p q e n =
    elim (cases_lt (length w) (length v)) [
      | inl less ↦ absurd (fewer v w p q e n less)
      | inr le ↦ le
    ]

pub one_fewest : (v w : List ℕ) → IsWhole v → IsWhole w → subidentifier_number v ≡ subidentifier_number w → get_or v 0 0 ≢ 0x80 → get_or w 0 0 ≢ 0x80 → v ≡ w
one_fewest v w p q e m n =
    let l = no_fewer v w p q e m in
    let k = no_fewer w v q p (sym e) n in
    one_of_length v w p q e (omega arith)
