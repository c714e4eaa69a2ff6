use Rattle.std.proofs.Common.{option_map, refl, ap, arith, rules}
use Rattle.bcder.specs.x690.Identifier.{AreOctets}
use Rattle.encodings.proofs.Walking.{closes_definite, closes_indefinite}
use Rattle.rules.proofs.begun.close.Goals as goal

pub returns-then-is_empty : goal.returns-then-is_empty
returns-then-is_empty c = closes_definite _ _ _ _ (ap (option_map (λ s. s.now)) c.in-Some.is) (search rules)

pub returns-in-Some-end_at : goal.returns-in-Some-end_at
returns-in-Some-end_at c =
    let o : AreOctets c.args.rest.now = λ i. omega (arith, c.type_inv.rest i) in
    let f = c.in-Some-end_at.ensures.found in
    closes_indefinite _ _ _ _ f.0 _ (ap (option_map (λ s. s.now)) c.in-None.is) o f.1 f.2 refl
