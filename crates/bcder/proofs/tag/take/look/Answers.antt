use Rattle.std.proofs.Common.{arith, rules, inl}
use Rattle.bcder.specs.x690.Identifier.{AreOctets}
use Rattle.bcder.proofs.Beginnings.{has_identifier, identifier_stands, begins_no_identifier}
use Rattle.bcder.proofs.Peeking.{some_followed}
use Rattle.bcder.proofs.tag.take.look.Goals as goal

pub overflow_sub-result : goal.overflow_sub-result
overflow_sub-result c =
    let o : AreOctets c.args.octets.now = λ i. omega (arith, c.type_inv.octets i) in
    (has_identifier c.args.octets.now c.in-Some.front.0 c.in-Some.front.1 c.in-Some.front.2.now o c.in-Some.ensures).no_more

pub returns-in-Some : goal.returns-in-Some
returns-in-Some c = λ x.
    let o : AreOctets c.args.octets.now = λ i. omega (arith, c.type_inv.octets i) in
    let i = has_identifier c.args.octets.now c.in-Some.front.0 c.in-Some.front.1 c.in-Some.front.2.now o c.in-Some.ensures in
    (omega arith, i.fits, identifier_stands _ _ _ _ i x)

pub returns-in-Some-identifier_violation : goal.returns-in-Some-identifier_violation
returns-in-Some-identifier_violation c = λ x. let v = c.in-Some-identifier_violation.ensures in
    (some_followed _ x (v.some (search rules)), begins_no_identifier _ (v.refused (search rules) x), v.violates _ x)

pub returns-in-None-identifier_violation : goal.returns-in-None-identifier_violation
returns-in-None-identifier_violation c =
    let v = c.in-None-identifier_violation.ensures in
    (v.short (search rules), begins_no_identifier _ c.in-None.ensures, λ s. inl (v.ends (search rules) s))
