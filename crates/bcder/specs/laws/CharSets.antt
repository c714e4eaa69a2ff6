-- The steps of the crate's character sets are steps: a character takes at least one octet, and is one of Unicode's.
use Rattle.std.specs.Prelude.{◌≡◌, ◌<◌, ℕ, zero, suc, List, [], ◌∷◌, ◌++◌, Bool, true, false, Some, None, refl}
use Rattle.std.proofs.Common.{ap, sym, subst, arith, ◌∙◌}
use Rattle.std.proofs.lemmas.Bool.Decides.{nat_tests}
use Rattle.std.proofs.lemmas.Str.{chars-IsAscii, IsUtf8-from_ascii}
use Rattle.std.specs.Char.{IsScalar}
use Rattle.std.specs.Str.{IsUtf8, IsAscii, chars}
use Rattle.bcder.specs.x690.CharSet.{Front, IsStep, Spells}
use Rattle.bcder.specs.x690.TextSets.{AreTexts}
use Rattle.bcder.specs.x690.AsciiSets.{one_octet_step, is_numeric, is_printable, is_ia5}

-- ---- sets of single octets

-- a number below the surrogates is that of a character
pub low_scalar : (c : ℕ) → c < 0xD800 → IsScalar c
low_scalar c h = grind (arith, nat_tests)

same_front : (x y : Front) → Some x ≡ Some y → x ≡ y
same_front x y e = cc

taken : (has : ℕ → Bool) (b : ℕ) (w : List ℕ) (t : Bool) (x : Front) → has b ≡ t → one_octet_step has (b ∷ w) ≡ Some x
    → (has b ≡ true) × (record { char = b; rest = w } ≡ x)
taken has b w true x is e = (is, same_front _ _ (sym (rw is) ∙ e))
taken has b w false x is e = let none : None ≡ Some x = sym (rw is) ∙ e in absurd cc

-- the first octet passed the test, and is taken
pub one_octet_taken : (has : ℕ → Bool) (b : ℕ) (w : List ℕ) (x : Front) → one_octet_step has (b ∷ w) ≡ Some x
    → (has b ≡ true) × (record { char = b; rest = w } ≡ x)
one_octet_taken has b w x e = taken has b w (has b) x refl e

pub one_octet_lawful : (has : ℕ → Bool) → ((b : ℕ) → has b ≡ true → IsScalar b) → IsStep (one_octet_step has)
one_octet_lawful has scalar = record {
  takes = λ w x e. takes w x e;
  scalar = λ w x e. a_scalar w x e;
}
  where
    takes : (w : List ℕ) (x : Front) → one_octet_step has w ≡ Some x → (b : ℕ) × (bs : List ℕ) × (w ≡ (b ∷ bs) ++ x.rest)
    takes [] x e = let none : None ≡ Some x = e in absurd cc
    takes (b ∷ w) x e = (b, [], ap (λ (y : Front). b ∷ y.rest) (one_octet_taken has b w x e).1)

    a_scalar : (w : List ℕ) (x : Front) → one_octet_step has w ≡ Some x → IsScalar x.char
    a_scalar [] x e = let none : None ≡ Some x = e in absurd cc
    a_scalar (b ∷ w) x e = let t = one_octet_taken has b w x e in subst (λ (y : Front). IsScalar y.char) t.1 (scalar b t.0)

-- ---- their octets are text

-- each octet passes the test
abbrev pub AllHave : (ℕ → Bool) → List ℕ → Type 0
AllHave has [] = Unit {0}
AllHave has (b ∷ w) = (has b ≡ true) × AllHave has w

module _ (has : ℕ → Bool) where
  -- octets of the set spell themselves
  pub self_spelled : (cs w : List ℕ) → Spells (one_octet_step has) w cs → (cs ≡ w) × AllHave has w
  self_spelled [] w e = (sym e, subst (AllHave has) (sym e) tt)
  self_spelled (c ∷ cs) [] (rest, e, more) = absurd cc
  self_spelled (c ∷ cs) (b ∷ w) (rest, e, more) =
      let (passed, same) = one_octet_taken has b w _ e in
      let (is, all) = self_spelled cs rest more in
      let char : b ≡ c = ap (λ (x : Front). x.char) same in
      let behind : w ≡ rest = ap (λ (x : Front). x.rest) same in
      ((λ i. sym char i ∷ (is ∙ sym behind) i), (passed, subst (AllHave has) (sym behind) all))

  module _ (ascii : (b : ℕ) → has b ≡ true → b < 128) where
    pub all_ascii : (w : List ℕ) → AllHave has w → IsAscii w
    all_ascii [] h i = omega arith
    all_ascii (b ∷ w) h zero = ascii b h.0
    all_ascii (b ∷ w) h (suc i) = all_ascii w h.1 i

    pub spells_text : (cs w : List ℕ) → Spells (one_octet_step has) w cs → IsUtf8 w × (chars w ≡ cs)
    spells_text cs w h =
        let (same, all) = self_spelled cs w h in
        (IsUtf8-from_ascii w (all_ascii w all), chars-IsAscii w (all_ascii w all) ∙ sym same)

-- ---- the three sets of X.680, 41

pub numeric_ascii : (b : ℕ) → is_numeric b ≡ true → b < 128
numeric_ascii b h = grind (arith, nat_tests)

pub printable_ascii : (b : ℕ) → is_printable b ≡ true → b < 128
printable_ascii b h = grind (arith, nat_tests)

pub ia5_ascii : (b : ℕ) → is_ia5 b ≡ true → b < 128
ia5_ascii b h = grind (arith, nat_tests)

-- a set of ASCII octets
pub ascii_lawful : (has : ℕ → Bool) → ((b : ℕ) → has b ≡ true → b < 128) → IsStep (one_octet_step has)
ascii_lawful has ascii = one_octet_lawful has (λ b h. let low = ascii b h in low_scalar b (omega arith))

pub ascii_texts : (has : ℕ → Bool) → ((b : ℕ) → has b ≡ true → b < 128) → AreTexts (one_octet_step has)
ascii_texts has ascii w cs = spells_text has ascii cs w
