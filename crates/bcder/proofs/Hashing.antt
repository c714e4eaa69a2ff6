-- Octets that are handed to a hasher in blocks.
use Rattle.std.proofs.Common.{◌≡◌, ◌⊎◌, ℕ, ◌+◌, ◌/◌, ◌≤◌, ◌<◌, List, [], ◌∷◌, ◌++◌, length, drop, sym, ap, ◌∙◌, inl, inr, suc, append_assoc, arith}
use Rattle.std.proofs.lemmas.Grind.{common_steps}
use Rattle.std.proofs.lemmas.List.{take_at, drop_at, take_all}
use Rattle.std.proofs.lemmas.Bool.{cases_lt}
use Rattle.std.specs.List.{fold}
use Rattle.bcder.specs.calls.StringOctets.{first_blocks, blocks}

one_more : (n : ℕ) → (64 + n + 63) / 64 ≡ suc ((n + 63) / 64)
one_more n = omega arith

one_is : (n : ℕ) → 0 < n → n ≤ 64 → (n + 63) / 64 ≡ 1
one_is n p l = omega (arith, p, l)

length_is : (a x : List ℕ) → length a ≡ 64 → length (a ++ x) ≡ 64 + length x
length_is a x l = grind (arith, common_steps)

-- 64 octets in front of others are a block
block_first : (a x : List ℕ) → length a ≡ 64 → blocks (a ++ x) ≡ a ∷ blocks x
block_first a x l =
    ap (λ n. first_blocks ((n + 63) / 64) (a ++ x)) (length_is a x l)
    ∙ ap (λ k. first_blocks k (a ++ x)) (one_more (length x))
    ∙ ap (λ b. b ∷ first_blocks ((length x + 63) / 64) (drop 64 (a ++ x))) (take_at a x 64 l)
    ∙ ap (λ y. a ∷ first_blocks ((length x + 63) / 64) y) (drop_at a x 64 l)

-- no more than 64 octets, at least one, are a block
block_last : (a : List ℕ) → 0 < length a → length a ≤ 64 → blocks a ≡ a ∷ []
block_last a p l = ap (λ k. first_blocks k a) (one_is (length a) p l) ∙ ap (λ b. b ∷ []) (take_all 64 a l)

none_left : (b p x v : List ℕ) → b ++ (p ++ x) ≡ v → p ≡ [] → x ≡ [] → v ≡ b
none_left b p x v is e f = grind (arith, common_steps)

module _ {S : Type 0} (write : S → List ℕ → S) (s t all : S) where
  -- a block is handed over, others are to come
  pub block_written : (a x v : List ℕ) → t ≡ write s a → length a ≡ 64 → v ≡ a ++ x → fold write s (blocks v) ≡ all → fold write t (blocks x) ≡ all
  block_written a x v e l is h =
      ap (λ z. fold write z (blocks x)) e ∙ sym (ap (fold write s) (block_first a x l)) ∙ sym (ap (λ z. fold write s (blocks z)) is) ∙ h

  -- the last block is handed over
  pub last_written : (a v : List ℕ) → t ≡ write s a → 0 < length a → length a ≤ 64 → v ≡ a → fold write s (blocks v) ≡ all → t ≡ all
  last_written a v e p l is h = e ∙ sym (ap (fold write s) (block_last a p l)) ∙ sym (ap (λ z. fold write s (blocks z)) is) ∙ h

  -- a block of one part is handed over; r is left of the part, x stands behind it, and p is the next
  pub block_passed : (part a r x p : List ℕ) → t ≡ write s a → part ≡ a ++ r → length a ≡ 64 → p ≡ r ++ x → fold write s (blocks (part ++ x)) ≡ all
      → fold write t (blocks p) ≡ all
  block_passed part a r x p e is l p_is h =
      ap (λ z. fold write t (blocks z)) p_is ∙ block_written a (r ++ x) (part ++ x) e l (ap (λ z. z ++ x) is ∙ append_assoc a r x) h

  -- a block of several parts is handed over; p is left of a part, and x stands behind it
  pub together_passed : (b p x v : List ℕ) → t ≡ write s b → b ++ (p ++ x) ≡ v → 0 < length b → length b ≤ 64 → (length b < 64 → p ≡ []) → (p ≡ [] → x ≡ [])
      → fold write s (blocks v) ≡ all → fold write t (blocks (p ++ x)) ≡ all
  together_passed b p x v e is some most full ends h = by (cases_lt (length b) 64)
    where
      by : (length b < 64) ⊎ (64 ≤ length b) → fold write t (blocks (p ++ x)) ≡ all
      by (inl short) =
          let p_is = full short in
          let x_is = ends p_is in
          ap (λ z. fold write t (blocks (z ++ x))) p_is ∙ ap (λ z. fold write t (blocks z)) x_is
          ∙ last_written b v e some most (none_left b p x v is p_is x_is) h
      by (inr long) = block_written b (p ++ x) v e (omega (arith, long, most)) (sym is) h
