-- Rows of octets compared, of which each may be cut into parts.
use Rattle.std.proofs.Common.{◌≡◌, ℕ, Bool, true, false, not, append_assoc, List, [], ◌∷◌, ◌++◌, length, min, nat_eq, IsTrue, ◌↔◌, refl, sym, ap, ◌∙◌, arith}
use Rattle.std.proofs.lemmas.Grind.{common_steps}
use Rattle.std.specs.Cmp.Lexicographic.{pointwise, slice_cmp, texts_ties, bytes_decides}
use Rattle.std.specs.Ordering.{nat_cmp, ordering_then, is_eq}
use Rattle.std.specs.declared.cmp.Ordering.{Ordering}
use Rattle.std.specs.declared.cmp.Ordering.TheVariants.{Less, Equal, Greater}
use Rattle.std.specs.Cmp.{nat_cmp_is}
use Rattle.std.specs.List.{concat}
use Rattle.std.proofs.lemmas.Bool.{not-true, not-false}
use Rattle.bcder.specs.calls.StringOctets.{StringOctets, whole, cut, piece, parts, octets_of}

-- ---- the parts of a string, joined

pub piece_joined : (w : List ℕ) → concat (piece w) ≡ w
piece_joined [] = refl
piece_joined (b ∷ w) = grind (arith, common_steps)

pub parts_joined : (s : StringOctets) → concat (parts s) ≡ octets_of s
parts_joined (whole w) = piece_joined w
parts_joined (cut kept ps) = refl

-- ---- octets in front of others

then_then : (p q r : Ordering) → ordering_then p (ordering_then q r) ≡ ordering_then (ordering_then p q) r
then_then Less q r = refl
then_then Equal q r = refl
then_then Greater q r = refl

-- as many octets are in front of others on both sides: they decide, if they differ
fronts_first : (a b x y : List ℕ) → length a ≡ length b → slice_cmp nat_cmp (a ++ x) (b ++ y) ≡ ordering_then (slice_cmp nat_cmp a b) (slice_cmp nat_cmp x y)
fronts_first [] [] x y h = refl
fronts_first [] (d ∷ b) x y h = absurd (omega (arith, h))
fronts_first (c ∷ a) [] x y h = absurd (omega (arith, h))
fronts_first (c ∷ a) (d ∷ b) x y h =
    ap (ordering_then (nat_cmp c d)) (fronts_first a b x y (omega (arith, h))) ∙ then_then (nat_cmp c d) (slice_cmp nat_cmp a b) (slice_cmp nat_cmp x y)

told_equal : (o r : Ordering) → is_eq o ≡ true → ordering_then o r ≡ r
told_equal Less r e = cc
told_equal Equal r e = refl
told_equal Greater r e = cc

told_other : (o r : Ordering) → is_eq o ≡ false → ordering_then o r ≡ o
told_other Less r e = refl
told_other Equal r e = cc
told_other Greater r e = refl

-- fronts that are equal are passed
pub equal_fronts : (a b x y : List ℕ) → length a ≡ length b → pointwise nat_eq a b ≡ true → slice_cmp nat_cmp (a ++ x) (b ++ y) ≡ slice_cmp nat_cmp x y
equal_fronts a b x y l e = fronts_first a b x y l ∙ told_equal (slice_cmp nat_cmp a b) (slice_cmp nat_cmp x y) (sym (texts_ties a b) ∙ e)

-- fronts that differ decide
pub other_fronts : (a b x y : List ℕ) → length a ≡ length b → pointwise nat_eq a b ≡ false → slice_cmp nat_cmp (a ++ x) (b ++ y) ≡ slice_cmp nat_cmp a b
other_fronts a b x y l e = fronts_first a b x y l ∙ told_other (slice_cmp nat_cmp a b) (slice_cmp nat_cmp x y) (sym (texts_ties a b) ∙ e)

-- ---- a turn: two rows, of which one and other stand in one part each, and x and y behind them

module _ (one other a r b s x y : List ℕ) (all : Ordering) (one_is : one ≡ a ++ r) (other_is : other ≡ b ++ s) (long : length a ≡ length b)
    (left : slice_cmp nat_cmp (one ++ x) (other ++ y) ≡ all) where
  split : slice_cmp nat_cmp (a ++ (r ++ x)) (b ++ (s ++ y)) ≡ all
  split =
      ap (λ z. slice_cmp nat_cmp z (b ++ (s ++ y))) (sym (append_assoc a r x) ∙ ap (λ z. z ++ x) (sym one_is))
      ∙ ap (λ z. slice_cmp nat_cmp (one ++ x) z) (sym (append_assoc b s y) ∙ ap (λ z. z ++ y) (sym other_is))
      ∙ left

  -- fronts that differ tell the order
  pub fronts_told : true ≡ not (pointwise nat_eq a b) → slice_cmp nat_cmp a b ≡ all
  fronts_told e = let f = not-true (pointwise nat_eq a b) (sym e) in sym (other_fronts a b (r ++ x) (s ++ y) long f) ∙ split

  -- fronts that are equal are passed
  pub fronts_passed : (p q : List ℕ) → false ≡ not (pointwise nat_eq a b) → p ≡ r ++ x → q ≡ s ++ y → slice_cmp nat_cmp p q ≡ all
  fronts_passed p q e p_is q_is =
      let f = not-false (pointwise nat_eq a b) (sym e) in
      ap (λ z. slice_cmp nat_cmp z q) p_is ∙ ap (λ z. slice_cmp nat_cmp (r ++ x) z) q_is ∙ sym (equal_fronts a b (r ++ x) (s ++ y) long f) ∙ split

-- where one side is at its end, the other is greater, unless it is at its end too
pub ends_told : (one other x y : List ℕ) → (one ≡ [] → x ≡ []) → (other ≡ [] → y ≡ []) → min (length one) (length other) ≡ 0
    → slice_cmp nat_cmp (one ++ x) (other ++ y) ≡ nat_cmp (length one) (length other)
ends_told [] [] x y p q h = let e = p refl in let f = q refl in rw (e, f) refl
ends_told [] (d ∷ b) x y p q h = let e = p refl in rw e (nat_cmp_is 0 (length (d ∷ b)) Less (omega arith))
ends_told (c ∷ a) [] x y p q h = let f = q refl in rw f (nat_cmp_is (length (c ∷ a)) 0 Greater (omega arith))
ends_told (c ∷ a) (d ∷ b) x y p q h = absurd (omega (arith, h))

-- ---- whether octets are equal

pub equal_told : (xs ys : List ℕ) (o : Ordering) (r : Bool) → o ≡ slice_cmp nat_cmp xs ys → r ≡ is_eq o → r ≡ pointwise nat_eq xs ys
equal_told xs ys o r e f = f ∙ ap is_eq e ∙ sym (texts_ties xs ys)

pub same_told : (xs ys : List ℕ) (r : Bool) → r ≡ pointwise nat_eq xs ys → IsTrue r ↔ (xs ≡ ys)
same_told xs ys r e = (λ h. (bytes_decides xs ys).0 (sym e ∙ h), λ h. e ∙ (bytes_decides xs ys).1 h)
