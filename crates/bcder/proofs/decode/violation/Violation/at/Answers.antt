use Rattle.std.proofs.Common.{◌≡◌, true, false, arith}
use Rattle.bcder.specs.declared.decode.header.Peeked.TheVariants as peeked
use Rattle.bcder.specs.x690.Identifier.{AreOctets}
use Rattle.bcder.proofs.Told.{no_front, alone, front_told}
use Rattle.bcder.proofs.decode.violation.Violation.at.Goals as goal

pub returns-in_default-clause-refused : goal.returns-in_default-clause-refused
returns-in_default-clause-refused c = λ _. no_front c.args.mode c.args.octets.now c.in_default.ensures.1.0 c.in_default.ensures.1.1

pub returns-in-Refused-clause-violates : goal.returns-in-Refused-clause-violates
returns-in-Refused-clause-violates c =
    let i = alone c.args.mode c.args.octets.now (peeked.Refused c.in-Refused.violation) (rw c.in-Refused.is at c.in-Some.ensures) in
    i.2

pub returns-in-Refused-clause-refused : goal.returns-in-Refused-clause-refused
returns-in-Refused-clause-refused c = λ _.
    let i = alone c.args.mode c.args.octets.now (peeked.Refused c.in-Refused.violation) (rw c.in-Refused.is at c.in-Some.ensures) in
    no_front c.args.mode c.args.octets.now i.1.0 i.1.1

pub returns-in_default-peeked : goal.returns-in_default-peeked
returns-in_default-peeked c =
    let o : AreOctets c.args.octets.now = λ i. omega (arith, c.type_inv.octets i) in
    record {
      violates = tt;
      refused = λ e. absurd (let z : false ≡ true = e in cc);
      none = λ _ l. front_told c.args.mode c.args.octets.now c.in-Some.peeked o l (alone c.args.mode c.args.octets.now c.in-Some.peeked c.in-Some.ensures)
          (λ v e. c.in_default-peeked.not-Refused v e);
    }
