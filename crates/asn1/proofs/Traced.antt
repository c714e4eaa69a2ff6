-- Parts that are noted one after the other.
use Rattle.std.proofs.Common.{◌≡◌, List, [], ◌∷◌, ◌++◌, subst}
use Rattle.asn1.specs.declared.trace.Part.{Part}
use Rattle.asn1.specs.Tracing.{AreNoted}

pub noted_both : {P : Type 0} (noted : P → Part → P → Type 0) (p q r : P) (xs ys : List Part) → AreNoted noted p xs q → AreNoted noted q ys r
    → AreNoted noted p (xs ++ ys) r
noted_both noted p q r [] ys e h = subst (λ b. AreNoted noted b ys r) e h
noted_both noted p q r (x ∷ xs) ys (between, one, more) h = (between, one, noted_both noted between q r xs ys more h)
