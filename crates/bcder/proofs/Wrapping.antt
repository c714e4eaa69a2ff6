-- Encodings inside an octet string.
use Rattle.std.proofs.Common.{◌≡◌, ℕ, true, List, length, Result, Ok, Err, ◌⊎◌, inl, inr, refl, sym, ap, ◌∙◌, subst}
use Rattle.bcder.specs.declared.encode.error.EncodeError.{EncodeError}
use Rattle.bcder.specs.declared.mode.Mode.{Mode}
use Rattle.bcder.specs.x690.Identifier.{AreOctets, Tag}
use Rattle.bcder.specs.calls.Meaning.{Encoded, Meaning, IsOne, IsLawful}
use Rattle.bcder.specs.calls.Encoders.{HasEncoding, MeansOctets, SizeOfValues}
use Rattle.bcder.specs.calls.StringMeaning.{string_meaning, contents_of, OctetsMean, WrappedMeans, is_cut, IsGathered}
use Rattle.bcder.specs.laws.Octets.{AreOctets-encodings}

pub lawful_octets : (mode : Mode) {M : Meaning → Type 0} → IsLawful mode M → (e : Encoded) → M (Ok e) → AreOctets e.octets
lawful_octets mode lawful e m = AreOctets-encodings mode e.values e.octets (lawful.encodes e m)

module _ (t : Tag) (mode : Mode) (M : Meaning → Type 0) where
  -- what the octets mean is meant
  pub wrapped_given : (e : Encoded) → M (Ok e) → (m : Meaning) → OctetsMean t e.octets mode m → WrappedMeans t mode M m
  wrapped_given e meant m (inl p) = inl p
  wrapped_given e meant m (inr (v, (c, (is, o), eq))) = inr (v, (Ok e, meant, eq ∙ ap (string_meaning t mode) is))

  -- and nothing else
  pub wrapped_taken : IsOne M → (e : Encoded) → M (Ok e) → AreOctets e.octets → (m : Meaning) → WrappedMeans t mode M m → OctetsMean t e.octets mode m
  wrapped_taken one e meant o m (inl p) = inl p
  wrapped_taken one e meant o m (inr (v, (x, holds, eq))) =
      inr (v, (Ok e.octets, (refl, o), eq ∙ ap (λ y. string_meaning t mode (contents_of y)) (one.same x (Ok e) holds meant)))

  wrapped_inside_at : (x : Encoded) (m : Meaning) → M m → Ok x ≡ string_meaning t mode (contents_of m) → HasEncoding M
  wrapped_inside_at x (Ok e) holds eq = (e, holds)
  wrapped_inside_at x (Err e) holds eq = cc

  pub wrapped_inside : (x : Encoded) → WrappedMeans t mode M (Ok x) → HasEncoding M
  wrapped_inside x (inl p) = cc
  wrapped_inside x (inr (v, (m, holds, eq))) = wrapped_inside_at x m holds eq

  pub wrapped_size : (lacks : Type 0) (e : Encoded) → M (Ok e) → (r : Result ℕ EncodeError) → SizeOfValues (OctetsMean t e.octets mode) ⊥ r
      → SizeOfValues (WrappedMeans t mode M) lacks r
  wrapped_size lacks e meant (Ok n) h = (h.0, wrapped_given e meant (Ok h.0) h.1, h.2)
  wrapped_size lacks e meant (Err d) h = record { meant = λ ne. wrapped_given e meant (Err d) (h.meant ne); lacking = λ is. absurd (h.lacking is) }

  -- octets that were gathered
  pub gathered_as : IsOne M → (e : Encoded) → M (Ok e) → AreOctets e.octets → (w : List ℕ) → w ≡ e.octets → (x : Encoded) → WrappedMeans t mode M (Ok x)
      → OctetsMean t w mode (Ok x)
  gathered_as one e meant o w same x h = subst (λ u. OctetsMean t u mode (Ok x)) (sym same) (wrapped_taken one e meant o (Ok x) h)

-- where memory lacks to keep what is meant, there is an encoding, or memory may lack for it
pub not_kept : {L : Type 0} (M : Meaning → Type 0) → MeansOctets (λ (e : Encoded). e.octets) M ⊎ L → L ⊎ HasEncoding M
not_kept M (inl (e, m, some)) = inr (e, m)
not_kept M (inr l) = inl l

pub or_gathered : {L : Type 0} (mode : Mode) (M : Meaning → Type 0) (n : ℕ) → is_cut mode n ≡ true → ((e : Encoded) → M (Ok e) → n ≡ length e.octets)
    → L ⊎ HasEncoding M → L ⊎ IsGathered mode M
or_gathered mode M n is sized (inl l) = inl l
or_gathered mode M n is sized (inr (e, m)) = inr (e, m, ap (is_cut mode) (sym (sized e m)) ∙ is)
