use Rattle.std.proofs.Common.{refl, inr, arith, rules}
use Rattle.bcder.specs.x690.Identifier.{AreOctets}
use Rattle.encodings.proofs.Magnitudes.{sign_told, magnitude_stored, magnitude_too_long}
use Rattle.encodings.proofs.magnitude.store_magnitude.Goals as goal

pub returns-in_default : goal.returns-in_default
returns-in_default c = inr (refl, λ m k. c.in_default.ensures _ (sign_told _ m k), refl, refl)

pub returns-then-digits-buffer : goal.returns-then-digits-buffer
returns-then-digits-buffer c =
    let o : AreOctets c.args.octets.now = λ i. omega (arith, c.type_inv.octets i) in
    magnitude_too_long _ _ _ _ o c.in-Some.ensures _ c.without_lead-digits.ensures _ (search rules) _ (search rules) refl

pub returns : goal.returns
returns c =
    let o : AreOctets c.args.octets.now = λ i. omega (arith, c.type_inv.octets i) in
    magnitude_stored _ _ _ _ o c.in-Some.ensures _ c.without_lead-digits.ensures _ (search rules) _ (search rules) c.put.ensures
