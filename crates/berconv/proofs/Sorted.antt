-- Values that are put in order, if that is wanted.
use Rattle.std.proofs.Common.{◌≡◌, ◌≢◌, ◌⊎◌, inl, inr, ℕ, Bool, true, false, List, ◌++◌, length, take, refl, sym, subst, arith}
use Rattle.std.proofs.Math.Seq.{take-append_seam}
use Rattle.bcder.specs.declared.mode.Mode.{Mode}
use Rattle.bcder.specs.declared.mode.Mode.TheVariants.{Ber, Cer, Der}
use Rattle.encodings.specs.Sets.{IsSorting, SortsSets, in_order, unordered, no_values, lacking}
use Rattle.encodings.specs.Status.{done, no_order}
use Rattle.berconv.specs.Ends.{IsInOrder}

pub not_wanted : (sorts : Bool) (to : Mode) (v : List ℕ) → sorts ≡ false → IsInOrder sorts to v v
not_wanted sorts to v e = subst (λ b. IsInOrder b to v v) (sym e) refl

put_in_order : (to : Mode) (v w : List ℕ) → to ≢ Ber → IsSorting to v w → IsInOrder true to v w
put_in_order Ber v w n h = absurd (n refl)
put_in_order Cer v w n h = h
put_in_order Der v w n h = h

in_basic : (to : Mode) (v w : List ℕ) → to ≡ Ber → w ≡ v → IsInOrder true to v w
in_basic to v w e k = subst (λ m. IsInOrder true m v w) (sym e) k

pub was_sorted : (sorts : Bool) (to : Mode) (v w : List ℕ) (s : ℕ) → sorts ≡ true → (s ≡ done) ⊎ (s ≡ no_order) → SortsSets to v s w → IsInOrder sorts to v w
was_sorted sorts to v w s e k (in_order n a h) = subst (λ b. IsInOrder b to v w) (sym e) (put_in_order to v w n h)
was_sorted sorts to v w s e k (unordered b a h) = subst (λ z. IsInOrder z to v w) (sym e) (in_basic to v w b h)
was_sorted sorts to v w s e (inl k) (no_values n a h b) = absurd (omega (arith, a, k))
was_sorted sorts to v w s e (inr k) (no_values n a h b) = absurd (omega (arith, a, k))
was_sorted sorts to v w s e (inl k) (lacking n a b) = absurd (omega (arith, a, k))
was_sorted sorts to v w s e (inr k) (lacking n a b) = absurd (omega (arith, a, k))

-- the octets w were written over v, and nothing follows them
pub in_place : (sorts : Bool) (to : Mode) (u v w more : List ℕ) (n : ℕ) → u ≡ v → length w ≡ n → IsInOrder sorts to u w
    → IsInOrder sorts to v (take n (w ++ more))
in_place sorts to u v w more n e k h =
    subst (λ z. IsInOrder sorts to z (take n (w ++ more))) e
    (subst (λ z. IsInOrder sorts to u z) (sym (subst (λ i. take i (w ++ more) ≡ w) k (take-append_seam w more))) h)
