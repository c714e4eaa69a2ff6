-- What contents octets tell of their integer.
use Rattle.std.proofs.Common.{◌≡◌, ℕ, Bool, true, false, IsTrue, ◌↔◌, List, [], ◌∷◌, length, refl, sym, ap, ◌∙◌, arith, subst}
use Rattle.std.specs.Prelude.{ℤ, pos, negsuc, ◌<ℤ◌}
use Rattle.std.specs.Prelude.{nat_eq}
use Rattle.std.specs.Ordering.{int_eq}
use Rattle.std.specs.Cmp.{signed_Decides}
use Rattle.std.specs.Cmp.Lexicographic.{pointwise, same_text, nat_list_eq_equiv}
use Rattle.std.proofs.lemmas.Int.{ints}
use Rattle.std.proofs.lemmas.Bool.Decides.{nat_tests}
use Rattle.bcder.specs.x690.Identifier.{AreOctets}
use Rattle.bcder.specs.x690.Integer.{AreInteger, Leads, number, is_negative}
use Rattle.bcder.specs.laws.Integers.{Told, positive, negative, told_by, one_integer, AreOctets-nil, AreOctets-cons}
use Rattle.bcder.specs.laws.Order.{leads_tested, leads_tested_negative}

pub negative_told : (z : ℤ) (w : List ℕ) (b : Bool) → AreOctets w → AreInteger z w → b ≡ is_negative w → IsTrue b ↔ (z <ℤ pos 0)
negative_told z w b o a e = by_told z (told_by z w o a)
  where
    by_told : (x : ℤ) → Told w x → IsTrue b ↔ (x <ℤ pos 0)
    by_told (pos n) (positive _ l s v) =
        let f : b ≡ false = e ∙ leads_tested w l in
        (λ t. absurd (let x : true ≡ false = sym t ∙ f in cc), λ l. absurd (omega (arith, ints)))
    by_told (negsuc n) (negative _ l s v) = (λ _. omega (arith, ints), λ _. e ∙ leads_tested_negative w l)

-- 0 has one octet
pub zero_told : (z : ℤ) (w : List ℕ) → AreOctets w → AreInteger z w → z ≡ pos 0 → length w ≡ 1
zero_told z w o a e = ap length (one_integer z w (0 ∷ []) o (AreOctets-cons 0 [] (omega arith) AreOctets-nil) a (record { smallest = tt; is = sym e }))

-- octets are equal exactly where their integers are
pub octets_equal : (x y : ℤ) (v w : List ℕ) (b : Bool) → AreOctets v → AreOctets w → AreInteger x v → AreInteger y w → b ≡ pointwise nat_eq v w → b ≡ int_eq x y
octets_equal x y v w true o p a c e =
    let same : v ≡ w = same_text v w e in
    sym ((signed_Decides x y).1 (sym a.is ∙ ap number same ∙ c.is))
octets_equal x y v w false o p a c e = go (int_eq x y) refl
  where
    go : (t : Bool) → int_eq x y ≡ t → false ≡ t
    go false f = refl
    go true f =
        let z : x ≡ y = (signed_Decides x y).0 f in
        let same : v ≡ w = one_integer x v w o p a (subst (λ k. AreInteger k w) (sym z) c) in
        e ∙ ap (λ k. pointwise nat_eq v k) (sym same) ∙ nat_list_eq_equiv.refl v

-- ---- unsigned numbers

pub unsigned_leads : (n : ℕ) (w : List ℕ) → AreOctets w → AreInteger (pos n) w → Leads false w
unsigned_leads n w o a = by_told (pos n) refl (told_by (pos n) w o a)
  where
    by_told : (x : ℤ) → x ≡ pos n → Told w x → Leads false w
    by_told (pos m) e (positive _ l s v) = l
    by_told (negsuc m) e (negative _ l s v) = cc

pub leads_both : (w : List ℕ) → Leads true w → Leads false w → ⊥
leads_both [] a b = a
leads_both (c ∷ w) a b = omega (arith, a, b)

-- ---- the same of unsigned numbers

pub int_eq_pos : (x y : ℕ) → int_eq (pos x) (pos y) ≡ nat_eq x y
int_eq_pos x y = grind (arith, nat_tests)
