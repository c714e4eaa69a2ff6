use Rattle.std.proofs.Common.{arith, refl}
use Rattle.bcder.specs.x690.Identifier.{AreOctets}
use Rattle.bcder.proofs.PlainReader.{long_begins}
use Rattle.bcder.proofs.plain.long_size.Goals as goal

pub returns-then-size-octets-clause-begins : goal.returns-then-size-octets-clause-begins
returns-then-size-octets-clause-begins c =
    let o : AreOctets c.args.octets.now = λ i. omega (arith, c.type_inv.octets i) in
    long_begins c.args.octets.now _ _ o c.in-len4-up.len_at_least c.if-kind-ge1.true c.if-kind-le30.true c.if-count.true
    (omega (arith, c.from.ensures, c.from-in-len4-up.ensures)) c.if-len-ge256.true refl c.if-size-octets.true
