-- Octets that are characters of a set, one by one.
use Rattle.std.proofs.Common.{◌≡◌, ℕ, ◌-◌, ◌≤◌, Bool, true, false, List, [], ◌∷◌, length, get_or, take, drop, refl, sym, ap, subst, ◌∙◌, arith}
use Rattle.std.proofs.lemmas.List.{take_all}
use Rattle.bcder.specs.x690.AsciiSets.{one_octet_step}
use Rattle.bcder.specs.x690.CharSet.{Front, IsOfSet}
use Rattle.bcder.specs.laws.CharSets.{one_octet_taken}

-- the first octet, and the others
pub first_apart : (v : List ℕ) → 1 ≤ length v → v ≡ get_or v 0 0 ∷ take (length v - 1) (drop 1 v)
first_apart [] l = absurd (omega arith)
first_apart (b ∷ w) l = ap (λ y. b ∷ y) (sym (take_all (length (b ∷ w) - 1) w (omega arith)))

module _ (has : ℕ → Bool) where
  pub none_spelled : IsOfSet (one_octet_step has) []
  none_spelled = ([], refl)

  pub one_spelled : (b : ℕ) (w : List ℕ) → has b ≡ true → IsOfSet (one_octet_step has) w → IsOfSet (one_octet_step has) (b ∷ w)
  one_spelled b w h s = (b ∷ s.0, (w, rw h refl, s.1))

  pub others_spelled : (b : ℕ) (w : List ℕ) → IsOfSet (one_octet_step has) (b ∷ w) → (has b ≡ true) × IsOfSet (one_octet_step has) w
  others_spelled b w ([], e) = absurd cc
  others_spelled b w (c ∷ cs, (rest, e, more)) =
      let (passed, same) = one_octet_taken has b w _ e in
      let behind : w ≡ rest = ap (λ (x : Front). x.rest) same in
      (passed, subst (λ v. IsOfSet (one_octet_step has) v) (sym behind) (cs, more))

  -- what is left decides
  pub record Decides (w v : List ℕ) : Type 0 where
    pub holds : IsOfSet (one_octet_step has) v → IsOfSet (one_octet_step has) w
    pub held : IsOfSet (one_octet_step has) w → IsOfSet (one_octet_step has) v

  pub decides_first : (w v : List ℕ) → w ≡ v → Decides w v
  decides_first w v e = rw e (record { holds = λ h. h; held = λ h. h })

  pub decides_next : (w v x : List ℕ) (b : ℕ) → v ≡ b ∷ x → has b ≡ true → Decides w v → Decides w x
  decides_next w v x b e h d = record {
    holds = λ s. d.holds (rw e (one_spelled b x h s));
    held = λ s. (others_spelled b x (rw e at (d.held s))).1;
  }

  pub decides_no : (w v x : List ℕ) (b : ℕ) → v ≡ b ∷ x → has b ≡ false → Decides w v → IsOfSet (one_octet_step has) w → ⊥
  decides_no w v x b e h d s =
      let p = (others_spelled b x (rw e at (d.held s))).0 in
      let q : true ≡ false = sym p ∙ h in
      cc

  pub decides_all : (w v : List ℕ) → v ≡ [] → Decides w v → IsOfSet (one_octet_step has) w
  decides_all w v e d = d.holds (rw e none_spelled)
