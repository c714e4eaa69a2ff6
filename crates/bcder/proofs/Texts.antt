-- Texts joined by dots, and identifiers read from them.
use Rattle.std.proofs.Common.{◌≡◌, ◌≢◌, ℕ, ◌<◌, List, [], ◌∷◌, ◌++◌, length, get_or, ap, sym, ◌∙◌, append_assoc, append-nil, arith, false, suc, nat_eq}
use Rattle.std.proofs.lemmas.Bool.Decides.{nat_tests}
use Rattle.bcder.specs.calls.Identifiers.{split_after, between_dots}

-- no dot among the octets
abbrev pub HasNoDot : List ℕ → Type 0
HasNoDot s = (i : ℕ) → i < length s → get_or s i 0 ≢ 46

no_dot_first : (c : ℕ) (s : List ℕ) → HasNoDot (c ∷ s) → nat_eq c 46 ≡ false
no_dot_first c s h = let n : c ≢ 46 = h 0 (omega arith) in grind (arith, nat_tests)

no_dot_rest : (c : ℕ) (s : List ℕ) → HasNoDot (c ∷ s) → HasNoDot s
no_dot_rest c s h i l = h (suc i) (omega arith)

-- up to the first dot, and from there on
pub split_dot : (front x y : List ℕ) → HasNoDot x → split_after front (x ++ (46 ∷ y)) ≡ (front ++ x) ∷ between_dots y
split_dot front [] y h = ap (λ l. l ∷ between_dots y) (sym (append-nil front))
split_dot front (c ∷ x) y h =
    rw (no_dot_first c x h) (split_dot (front ++ c ∷ []) x y (no_dot_rest c x h) ∙ ap (λ l. l ∷ between_dots y) (append_assoc front (c ∷ []) x))

-- without a dot
pub split_none : (front x : List ℕ) → HasNoDot x → split_after front x ≡ (front ++ x) ∷ []
split_none front [] h = ap (λ l. l ∷ []) (sym (append-nil front))
split_none front (c ∷ x) h = rw (no_dot_first c x h) (split_none (front ++ c ∷ []) x (no_dot_rest c x h) ∙ ap (λ l. l ∷ []) (append_assoc front (c ∷ []) x))
