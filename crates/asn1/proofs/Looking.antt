-- The parts that are expected, looked at one after the other.
use Rattle.std.proofs.Common.{◌≡◌, ℕ, Bool, ◌||◌, List, [], ◌∷◌, refl, ap, sym, ◌∙◌}
use Rattle.std.specs.Prelude.{true, false, nat_eq, if◌then◌else◌}
use Rattle.asn1.specs.declared.trace.Part.{Part}
use Rattle.asn1.specs.declared.trace.Part.TheVariants.{Expected}
use Rattle.asn1.specs.declared.trace.Part.TheVariants as part
use Rattle.asn1.specs.declared.set_order.Alternatives.{Alternatives}
use Rattle.asn1.specs.Tracing.{AreNoted}
use Rattle.asn1.specs.Sets.{place}
use Rattle.asn1.specs.SetOrder.{is_expected, least_with, smallest_of, LooksAt}

or_again : (a b c : Bool) → ((a || b) || c) ≡ (a || (b || c))
or_again true b c = refl
or_again false b c = refl

or_none : (a : Bool) → (a || false) ≡ a
or_none true = refl
or_none false = refl

least_both : (n : ℕ) (p : Part) (ps : List Part) → least_with (least_with n (p ∷ [])) ps ≡ least_with n (p ∷ ps)
least_both n (Expected t) ps = refl
least_both n part.AnyExpected ps = refl
least_both n part.Field ps = refl
least_both n (part.Behind k) ps = refl
least_both n part.Only ps = refl
least_both n (part.Item k) ps = refl
least_both n part.First ps = refl
least_both n part.Second ps = refl

expected_both : (n : ℕ) (p : Part) (ps : List Part) → (is_expected n (p ∷ []) || is_expected n ps) ≡ is_expected n (p ∷ ps)
expected_both n (Expected t) ps = or_again (nat_eq n (place t)) false (is_expected n ps)
expected_both n part.AnyExpected ps = refl
expected_both n part.Field ps = refl
expected_both n (part.Behind k) ps = refl
expected_both n part.Only ps = refl
expected_both n (part.Item k) ps = refl
expected_both n part.First ps = refl
expected_both n part.Second ps = refl

-- all of them were looked at
pub record LookedAtAll (p : Alternatives) (parts : List Part) (q : Alternatives) : Type 0 where
  pub least : q.least ≡ least_with p.least parts
  pub found : q.is_found ≡ (p.is_found || is_expected p.asked parts)

pub looked_at_all : (p : Alternatives) (parts : List Part) (q : Alternatives) → AreNoted LooksAt p parts q → LookedAtAll p parts q
looked_at_all p [] q e = record { least = ap (λ (z : Alternatives). z.least) e; found = ap (λ (z : Alternatives). z.is_found) e ∙ sym (or_none p.is_found) }
looked_at_all p (x ∷ xs) q (b, one, more) =
    let r = looked_at_all b xs q more in
    record {
      least = r.least ∙ ap (λ n. least_with n xs) one.least ∙ least_both p.least x xs;
      found =
          r.found
          ∙ ap (λ a. a || is_expected b.asked xs) one.found
          ∙ ap (λ n. (p.is_found || is_expected p.asked (x ∷ [])) || is_expected n xs) one.asked
          ∙ or_again p.is_found (is_expected p.asked (x ∷ [])) (is_expected p.asked xs)
          ∙ ap (λ a. p.is_found || a) (expected_both p.asked x xs);
    }

module _ (n : ℕ) (parts : List Part) (q : Alternatives) (h : AreNoted LooksAt (record { asked = n; least = n; is_found = false }) parts q) where
  all : LookedAtAll (record { asked = n; least = n; is_found = false }) parts q
  all = looked_at_all (record { asked = n; least = n; is_found = false }) parts q h

  pub smallest_found : q.is_found ≡ true → q.least ≡ smallest_of parts n
  smallest_found t = all.least ∙ sym (ap (λ b. if b then least_with n parts else n) (sym all.found ∙ t))

  pub none_found : q.is_found ≡ false → n ≡ smallest_of parts n
  none_found t = sym (ap (λ b. if b then least_with n parts else n) (sym all.found ∙ t))
