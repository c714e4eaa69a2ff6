-- Sizes that are noted behind a place that was reserved.
use Rattle.std.proofs.Common.{◌≡◌, ◌≢◌, ℕ, zero, suc, List, [], ◌∷◌, ◌++◌, length, refl, sym, ap, ◌∙◌, subst, inl, inr, append_assoc, append-nil, arith}
use Rattle.bcder.specs.declared.encode.sizes.Sizes.{Sizes}
use Rattle.bcder.specs.declared.mode.Mode.{Mode}
use Rattle.bcder.specs.declared.mode.Mode.TheVariants.{Ber, Cer, Der}
use Rattle.bcder.specs.calls.Meaning.{Meaning}
use Rattle.bcder.specs.calls.Noted.{noted, HasSize, ReadsInside, ReadsContents, Notes}
use Rattle.bcder.specs.steps.Places.{Reserves, Fills, ReservesContents, FillsContents}

module _ (M : Meaning → Type 0) (R : List ℕ → List ℕ → Type 0) (old mid far new : Sizes) (place n : ℕ) where
  inside_at : (k : ℕ) → old.room ≡ k → Reserves old place mid → Notes R mid far → Fills far place n new → HasSize M n
      → Notes (ReadsInside M R) old new
  inside_at zero is p q f sized =
      let (same, shut) = p.full is in
      let (none, still) = q.full shut in
      let here : noted far ≡ noted old = q.added ∙ ap (λ l. noted mid ++ l) none ∙ append-nil (noted mid) ∙ same in
      let size : length (noted far) ≡ place = ap (λ (l : List ℕ). length l) here ∙ sym p.at in
      let end : new.room ≡ 0 = f.room ∙ still in
      record {
        sizes = [];
        added = f.beyond (omega (arith, size)) ∙ here ∙ sym (append-nil (noted old));
        reads = λ behind more. inl (more end, more end);
        full = λ full. (refl, end);
      }
  inside_at (suc k) is p q f sized =
      let more_room : old.room ≢ 0 = λ z. omega (arith, is, z) in
      let far_is : noted far ≡ noted old ++ 0 ∷ q.sizes =
      q.added ∙ ap (λ l. l ++ q.sizes) (p.room more_room) ∙ append_assoc (noted old) (0 ∷ []) q.sizes in
      record {
        sizes = n ∷ q.sizes;
        added = f.there (noted old) q.sizes 0 far_is p.at;
        reads = λ behind more. inr (n, q.sizes ++ behind, refl, sized, q.reads behind (λ full. more (f.room ∙ full)));
        full = λ full. absurd (more_room full);
      }

  pub contents_noted : (mode : Mode) → ReservesContents mode old place mid → Notes R mid far → FillsContents mode far place n new → HasSize M n
      → Notes (ReadsContents mode M R) old new
  contents_noted Cer p q f sized =
      let plain : Notes R old new = subst (λ s. Notes R old s) (sym f) (subst (λ s. Notes R s far) p q) in
      record { sizes = plain.sizes; added = plain.added; reads = λ behind more. inr (plain.reads behind more); full = plain.full }
  contents_noted Ber p q f sized = inside_at old.room refl p q f sized
  contents_noted Der p q f sized = inside_at old.room refl p q f sized
