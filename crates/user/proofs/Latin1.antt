-- Octets of a set of single octets, each of which is a character.
use Rattle.std.proofs.Common.{◌≡◌, ℕ, zero, suc, ◌<◌, List, [], ◌∷◌, ◌++◌, length, get_or, Bool, true, refl, arith}
use Rattle.std.proofs.lemmas.Bool.Decides.{nat_tests}
use Rattle.bcder.specs.x690.AsciiSets.{one_octet_step}
use Rattle.bcder.specs.x690.CharSet.{Spells}
use Rattle.bcder.specs.laws.CharSets.{AllHave}
use Rattle.user.specs.Latin1.{is_octet}

module _ (has : ℕ → Bool) where
  pub spells_self : (w : List ℕ) → AllHave has w → Spells (one_octet_step has) w w
  spells_self [] h = refl
  spells_self (b ∷ w) h = (w, rw h.0, spells_self w h.1)

  pub have_push : (w : List ℕ) (c : ℕ) → AllHave has w → has c ≡ true → AllHave has (w ++ c ∷ [])
  have_push [] c h t = (t, tt)
  have_push (b ∷ w) c h t = (h.0, have_push w c h.1 t)

  pub have_at : (w : List ℕ) (i d : ℕ) → i < length w → AllHave has w → has (get_or w i d) ≡ true
  have_at [] i d l h = absurd (omega (arith, l))
  have_at (b ∷ w) zero d l h = h.0
  have_at (b ∷ w) (suc i) d l h = have_at w i d (omega (arith, l)) h.1

pub too_large : (c : ℕ) → 255 < c → is_octet c ≡ true → ⊥
too_large c l h = grind (arith, nat_tests)

pub small : (c : ℕ) → c < 256 → is_octet c ≡ true
small c l = grind (arith, nat_tests)
