use Rattle.std.proofs.Common.{arith, rules}
use Rattle.bcder.specs.x690.Identifier.{AreOctets}
use Rattle.bcder.specs.steps.Reading.{read_header}
use Rattle.bcder.proofs.PlainReader.{header_less}
use Rattle.bcder.proofs.decode.header.header_at.Goals as goal

pub returns-in-Some-form_of-clause-less : goal.returns-in-Some-form_of-clause-less
unfolding read_header
returns-in-Some-form_of-clause-less c =
    let octets : AreOctets c.args.octets.now = λ i. omega (arith, c.type_inv.octets i) in
    let allowed = c.in-Some-form_of.ensures.0 in
    header_less c.args.mode
    (record { tag = c.in-Some.tag; form = c.in-Some.constructed; len = c.in_ok-len.len }) c.args.octets.now c.in_ok-len.rest.now octets (search rules)
