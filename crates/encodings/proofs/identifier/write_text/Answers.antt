use Rattle.std.proofs.Common.{◌<◌, length, arith, rules}
use Rattle.bcder.specs.x690.Identifier.{AreOctets}
use Rattle.encodings.proofs.Identifiers.{text_starts, text_goes_on, text_stops, text_ends, no_text_first}
use Rattle.encodings.proofs.identifier.write_text.Goals as goal

pub loop-rest-init : goal.loop-rest-init
loop-rest-init c = text_starts _ _ _ _ _ _ (search rules) c.in-Some.ensures c.append_two-at.ensures.bound c.append_two-at.ensures.text

pub loop-rest-preserved : goal.loop-rest-preserved
loop-rest-preserved c =
    text_goes_on _ _ _ _ _ c.loop-rest.invariant _ _ _ _ c.in-Some-first_number.ensures c.append_component.ensures.text
    c.append_component.ensures.bound

pub returns-in_default : goal.returns-in_default
returns-in_default c =
    let o : AreOctets c.args.octets.now = λ i. omega (arith, c.type_inv.octets i) in
    no_text_first _ o c.in_default.ensures

pub returns-in-None : goal.returns-in-None
returns-in-None c =
    let o : AreOctets c.args.octets.now = λ i. omega (arith, c.type_inv.octets i) in
    let some : 0 < length c.loop-rest.rest.now = search (rules, c.is_empty.ensures, c.loop-rest-test.ensures) in
    text_stops _ _ _ _ _ c.loop-rest.invariant o some c.in-None.ensures

pub returns : goal.returns
returns c = text_ends _ _ _ _ _ c.loop-rest.invariant (search (rules, c.is_empty.ensures, c.loop-rest-test.ensures))
