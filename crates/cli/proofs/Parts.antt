-- Parts of octets.
use Rattle.std.proofs.Common.{◌≡◌, ℕ, ◌+◌, ◌-◌, ◌<◌, ◌≤◌, Bool, true, false, List, [], ◌∷◌, ◌++◌, length, take, drop, get_or, suc, codes, add-one}
use Rattle.std.proofs.Common.{refl, ap, sym, subst, ◌∙◌, append_assoc, append-nil, length-append, length-drop, take-append-drop, arith, inl, inr}
use Rattle.std.proofs.lemmas.Bool.{cases_lt}
use Rattle.std.proofs.lemmas.List.{drop-append-le, length-take-le}
use Rattle.std.proofs.Math.Seq.{drop-append_seam, take-append_seam, take-suc, drop-cons}
use lib.Pointwise.{pointwise, pointwise_decides}
use Rattle.std.specs.Prelude.{nat_eq, if◌then◌else◌}
use Rattle.std.proofs.lemmas.Bool.{eqb-true, eq-eqb}
use Rattle.std.proofs.Common.{Option, Some, None, MatchOption, IfSome, Bor}
use Rattle.std.specs.Str.{IsTrimAsciiEnd}
use Rattle.cli.specs.Pem.{IsLabelLine, IsSplit, Lacks, line_of, after_line, ends_line}

-- ---- marks

decides : (x y : ℕ) → (nat_eq x y ≡ true → x ≡ y) × (x ≡ y → nat_eq x y ≡ true)
decides x y = (eqb-true x y, eq-eqb x y)

same_list : (v w : List ℕ) → (pointwise nat_eq v w ≡ true → v ≡ w) × (v ≡ w → pointwise nat_eq v w ≡ true)
same_list = pointwise_decides {K = ℕ} {E = nat_eq} decides

-- a mark at a place
pub at_place : (w m x y : List ℕ) (n : ℕ) → w ≡ x ++ (m ++ y) → length x ≡ n → take (length m) (drop n w) ≡ m
at_place w m x y n e k =
    ap (λ z. take (length m) (drop n z)) e ∙ ap (λ i. take (length m) (drop i (x ++ (m ++ y)))) (sym k)
    ∙ ap (λ z. take (length m) z) (drop-append_seam x (m ++ y)) ∙ take-append_seam m y

-- no mark stands at a place, so the next stands further on
pub further : (w m x y : List ℕ) (n : ℕ) → w ≡ x ++ (m ++ y) → n ≤ length x → (take (length m) (drop n w) ≡ m → ⊥) → n + 1 ≤ length x
further w m x y n e k none = at_most (length x) n k (λ i. none (at_place w m x y n e i))
  where
    at_most : (a n : ℕ) → n ≤ a → (a ≡ n → ⊥) → n + 1 ≤ a
    at_most a n k h = omega (arith, k, h)

-- the octets there differ
pub differ : (front m behind w : List ℕ) (n : ℕ) (r : Bool) → r ≡ pointwise nat_eq front m → r ≡ false → front ≡ take (length m) behind → behind ≡ drop n w
    → take (length m) (drop n w) ≡ m → ⊥
differ front m behind w n r a b d f h =
    let e = (same_list front m).1 (d ∙ ap (take (length m)) f ∙ h) in
    let z : false ≡ true = sym b ∙ a ∙ e in
    cc

-- a mark behind some octets
pub behind_passed : (w m x y : List ℕ) (n : ℕ) → w ≡ x ++ (m ++ y) → n ≤ length x → drop n w ≡ drop n x ++ (m ++ y)
behind_passed w m x y n e k = ap (drop n) e ∙ drop-append-le n x (m ++ y) k

-- a mark behind the first octets, in all
pub in_all : (w m p b : List ℕ) (n : ℕ) → n ≤ length w → drop n w ≡ p ++ (m ++ b) → w ≡ take (n + length p) w ++ (m ++ b)
in_all w m p b n k e =
    let f = take n w ++ p in
    let all : w ≡ f ++ (m ++ b) = sym (take-append-drop n w) ∙ ap (λ z. take n w ++ z) e ∙ sym (append_assoc (take n w) p (m ++ b)) in
    let size : length f ≡ n + length p = length-append (take n w) p ∙ ap (λ i. i + length p) (length-take-le n w k) in
    let front : take (n + length p) w ≡ f = ap (λ i. take i w) (sym size) ∙ ap (take (length f)) all ∙ take-append_seam f (m ++ b) in
    all ∙ ap (λ z. z ++ (m ++ b)) (sym front)

-- two marks at one place are one
pub one_place : (w m x y u v : List ℕ) → w ≡ x ++ (m ++ y) → w ≡ u ++ (m ++ v) → length x ≡ length u → (x ≡ u) × (y ≡ v)
one_place w m x y u v e k n =
    let same : x ≡ u = sym (take-append_seam x (m ++ y)) ∙ ap (take (length x)) (sym e ∙ k) ∙ ap (λ i. take i (u ++ (m ++ v))) n
    ∙ take-append_seam u (m ++ v) in
    let rests : m ++ y ≡ m ++ v = sym (drop-append_seam x (m ++ y)) ∙ ap (drop (length x)) (sym e ∙ k) ∙ ap (λ i. drop i (u ++ (m ++ v))) n
    ∙ drop-append_seam u (m ++ v) in
    (same, sym (drop-append_seam m y) ∙ ap (drop (length m)) rests ∙ drop-append_seam m v)

-- ---- blocks

module _ (w m p b : List ℕ) (n : ℕ) (fits : n ≤ length w) (found : IsSplit m (drop n w) p b) where
  -- the mark that was found is the first from there on
  pub not_before : (x y : List ℕ) → w ≡ x ++ (m ++ y) → n ≤ length x → n + length p ≤ length x
  not_before x y e k =
      let h = found.first (drop n x) y (behind_passed w m x y n e k) in
      omega (arith, h, length-drop n x, k)

  pub stands : w ≡ take (n + length p) w ++ (m ++ b)
  stands = in_all w m p b n fits found.are

  start_in : n + length p ≤ length w
  start_in = omega (arith, fits, ap length found.are, length-append p (m ++ b), length-drop n w)

  pub start_fits : 0 < length m → n + length p + 1 ≤ length w
  start_fits some = omega (arith, fits, some, ap length found.are, length-append p (m ++ b), length-append m b, length-drop n w)

  module _ (P : List ℕ → List ℕ → Type 0) (passed : (x y : List ℕ) → w ≡ x ++ (m ++ y) → length x < n → P x y) where
    -- what was passed holds nothing
    pub first_there : (x y : List ℕ) → w ≡ x ++ (m ++ y) → length x < length (take (n + length p) w) → P x y
    first_there x y e k =
        let size = length-take-le (n + length p) w start_in in
        elim (cases_lt (length x) n) [ inl h ↦ passed x y e h | inr h ↦ absurd (past x y e h (omega (arith, k, size))) ]
      where
        past : (x y : List ℕ) → w ≡ x ++ (m ++ y) → n ≤ length x → length x < n + length p → ⊥
        past x y e h k = let l = not_before x y e h in omega (arith, l, k)

    pub passed_too : P (take (n + length p) w) b → (x y : List ℕ) → w ≡ x ++ (m ++ y) → length x < n + length p + 1 → P x y
    passed_too here x y e k = elim (cases_lt (length x) n) [ inl h ↦ passed x y e h | inr h ↦ at_start x y e h k ]
      where
        at_start : (x y : List ℕ) → w ≡ x ++ (m ++ y) → n ≤ length x → length x < n + length p + 1 → P x y
        at_start x y e h k =
            let l = not_before x y e h in
            let size : length x ≡ length (take (n + length p) w) = omega (arith, l, k, length-take-le (n + length p) w start_in) in
            let same = one_place w m x y (take (n + length p) w) b e stands size in
            subst (λ z. P z y) (sym same.0) (subst (λ z. P (take (n + length p) w) z) (sym same.1) here)

pub none_left : (w m : List ℕ) (n : ℕ) (P : List ℕ → List ℕ → Type 0) → ((x y : List ℕ) → w ≡ x ++ (m ++ y) → length x < n → P x y) → Lacks m (drop n w)
    → (x y : List ℕ) → w ≡ x ++ (m ++ y) → P x y
none_left w m n P passed lacks x y e =
    elim (cases_lt (length x) n) [ inl h ↦ passed x y e h | inr h ↦ absurd (lacks (drop n x) y (behind_passed w m x y n e h)) ]

pub shorter : (w m p b z : List ℕ) (n : ℕ) → n ≤ length w → drop n w ≡ p ++ (m ++ b) → 0 < length m → length z ≤ length b → length z < length w
shorter w m p b z n k e some h = omega (arith, k, some, h, ap length e, length-append p (m ++ b), length-append m b, length-drop n w)

pub found_in : (w m p b r : List ℕ) (n : ℕ) → r ≡ drop n w → IsSplit m r p b → IsSplit m (drop n w) p b
found_in w m p b r n e h = subst (λ z. IsSplit m z p b) e h

pub lacks_in : (w m r : List ℕ) (n : ℕ) → r ≡ drop n w → Lacks m r → Lacks m (drop n w)
lacks_in w m r n e h = subst (λ z. Lacks m z) e h

-- ---- the end of a line

line_step : (w : List ℕ) (n : ℕ) → n < length w → ends_line (get_or w n 0) ≡ false → line_of (drop n w) ≡ get_or w n 0 ∷ line_of (drop (suc n) w)
line_step w n k h = ap line_of (drop-cons w n 0 k) ∙ rw h refl

pub line_further : (w line : List ℕ) (n : ℕ) → n < length w → ends_line (get_or w n 0) ≡ false → line ≡ take n w ++ line_of (drop n w)
    → line ≡ take (n + 1) w ++ line_of (drop (n + 1) w)
line_further w line n k h e =
    e ∙ ap (λ z. take n w ++ z) (line_step w n k h) ∙ sym (append_assoc (take n w) (get_or w n 0 ∷ []) (line_of (drop (suc n) w)))
    ∙ ap (λ z. z ++ line_of (drop (suc n) w)) (sym (take-suc w n 0 k)) ∙ ap (λ i. take i w ++ line_of (drop i w)) (sym (add-one n))

pub after_further : (w : List ℕ) (n : ℕ) → n < length w → ends_line (get_or w n 0) ≡ false → after_line w ≡ after_line (drop n w)
    → after_line w ≡ after_line (drop (n + 1) w)
after_further w n k h e = e ∙ ap after_line (drop-cons w n 0 k) ∙ rw h refl ∙ ap (λ i. after_line (drop i w)) (sym (add-one n))

pub line_ends : (w line : List ℕ) (n : ℕ) → n < length w → ends_line (get_or w n 0) ≡ true → line ≡ take n w ++ line_of (drop n w) → line ≡ take n w
line_ends w line n k h e = e ∙ ap (λ z. take n w ++ line_of z) (drop-cons w n 0 k) ∙ rw h (append-nil (take n w))

pub after_ends : (w : List ℕ) (n : ℕ) → n < length w → ends_line (get_or w n 0) ≡ true → after_line w ≡ after_line (drop n w) → after_line w ≡ drop n w
after_ends w n k h e = e ∙ ap after_line (drop-cons w n 0 k) ∙ rw h (sym (drop-cons w n 0 k))

after_or : (b : Bool) (c : ℕ) (w v : List ℕ) → length v ≤ length w → length (if b then c ∷ w else v) ≤ length (c ∷ w)
after_or true c w v h = omega arith
after_or false c w v h = omega (arith, h)

after_short : (w : List ℕ) → length (after_line w) ≤ length w
after_short [] = omega arith
after_short (c ∷ w) = after_or (ends_line c) c w (after_line w) (after_short w)

pub rest_short : (z a w : List ℕ) → length z ≤ length a → a ≡ after_line w → length z ≤ length w
rest_short z a w h e = omega (arith, h, ap length e, after_short w)

-- ---- labels

pub label_told : (line kept : List ℕ) (o : Option (Bor (List ℕ))) → IsTrimAsciiEnd line kept
    → MatchOption o (pointwise nat_eq (drop (length kept - 5) kept) (codes "-----") ≡ false)
    (λ x. (pointwise nat_eq (drop (length kept - 5) kept) (codes "-----") ≡ true) × (x.now ≡ take (length kept - 5) kept) × (length x.now + 5 ≡ length kept))
    → IfSome o (λ label. IsLabelLine line label.now)
label_told line kept None t h = tt
label_told line kept (Some x) t h = (
  kept,
  t,
  sym (take-append-drop (length kept - 5) kept) ∙ ap (λ z. z ++ drop (length kept - 5) kept) (sym h.1)
      ∙ ap (λ z. x.now ++ z) ((same_list (drop (length kept - 5) kept) (codes "-----")).0 h.0),
)
