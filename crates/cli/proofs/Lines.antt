-- Lines of 64 characters.
use Rattle.std.proofs.Common.{◌≡◌, ℕ, zero, suc, ◌<◌, ◌≤◌, List, [], ◌∷◌, ◌++◌, length, take, drop, codes, refl, ap, sym, ◌∙◌, append_assoc, arith}
use Rattle.std.proofs.Common.{length-drop, min}
use Rattle.std.proofs.lemmas.List.{take_min, drop_min, append-nil}
use Rattle.cli.specs.Armor.{lines, lines_from}

enough : (n m : ℕ) (s : List ℕ) → length s ≤ n → length s ≤ m → lines_from n s ≡ lines_from m s
unfolding lines_from
enough zero zero s h k = refl
enough zero (suc m) [] h k = refl
enough zero (suc m) (c ∷ s) h k = absurd (omega arith)
enough (suc n) zero [] h k = refl
enough (suc n) zero (c ∷ s) h k = absurd (omega arith)
enough (suc n) (suc m) [] h k = refl
enough (suc n) (suc m) (c ∷ s) h k =
    ap (λ z. take 64 (c ∷ s) ++ (codes "\n" ++ z))
    (enough n m (drop 64 (c ∷ s)) (omega (arith, length-drop 64 (c ∷ s))) (omega (arith, length-drop 64 (c ∷ s))))

pub first_line : (s : List ℕ) → 0 < length s → lines s ≡ take 64 s ++ (codes "\n" ++ lines (drop 64 s))
unfolding lines_from
first_line [] h = absurd (omega arith)
first_line (c ∷ s) h =
    ap (λ z. take 64 (c ∷ s) ++ (codes "\n" ++ z))
    (enough (length s) (length (drop 64 (c ∷ s))) (drop 64 (c ∷ s)) (omega (arith, length-drop 64 (c ∷ s))) (omega arith))

pub one_line : (t r : List ℕ) (n : ℕ) → 0 < length r → n ≡ min (length r) 64
    → ((t ++ take n r) ++ codes "\n") ++ lines (drop n r) ≡ t ++ lines r
one_line t r n h e =
    let m : n ≡ min 64 (length r) = omega arith in
    let k : take n r ≡ take 64 r = ap (λ i. take i r) m ∙ take_min 64 r in
    let d : drop n r ≡ drop 64 r = ap (λ i. drop i r) m ∙ drop_min 64 r in
    ap (λ z. (t ++ z ++ codes "\n") ++ lines (drop n r)) k ∙ ap (λ z. (t ++ take 64 r ++ codes "\n") ++ lines z) d
    ∙ append_assoc (t ++ take 64 r) (codes "\n") (lines (drop 64 r)) ∙ append_assoc t (take 64 r) (codes "\n" ++ lines (drop 64 r))
    ∙ ap (λ z. t ++ z) (sym (first_line r h))

pub no_line : (t r x : List ℕ) → length r ≡ 0 → t ++ lines r ≡ x → t ≡ x
unfolding lines_from
no_line t [] x h e = sym (append-nil t) ∙ e
no_line t (c ∷ r) x h e = absurd (omega arith)

pub whole : (t b l e : List ℕ) → ((t ++ b) ++ l) ++ e ≡ t ++ (b ++ (l ++ e))
whole t b l e = append_assoc (t ++ b) l e ∙ append_assoc t b (l ++ e)
