use Rattle.std.proofs.Common.{arith}
use Rattle.bcder.specs.x690.Identifier.{AreOctets}
use Rattle.bcder.proofs.PlainReader.{value_shorter, begins_read}
use Rattle.bcder.proofs.plain.size_within.Goals as goal

pub overflow_sub-result : goal.overflow_sub-result
overflow_sub-result c =
    let o : AreOctets c.args.octets.now = λ i. omega (arith, c.type_inv.octets i) in
    omega (arith, value_shorter _ _ _ o c.in-Some.ensures.read)

pub returns-in-Some : goal.returns-in-Some
returns-in-Some c =
    let o : AreOctets c.args.octets.now = λ i. omega (arith, c.type_inv.octets i) in
    begins_read _ _ _ _ o c.in-Some.ensures.read (omega (arith, value_shorter _ _ _ o c.in-Some.ensures.read))
