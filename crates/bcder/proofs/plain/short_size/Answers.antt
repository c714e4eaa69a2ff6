use Rattle.std.proofs.Common.{arith, refl}
use Rattle.bcder.specs.x690.Identifier.{AreOctets}
use Rattle.bcder.proofs.PlainReader.{short_header, short_begins}
use Rattle.bcder.proofs.plain.short_size.Goals as goal

pub returns-then-size-octets-clause-begins : goal.returns-then-size-octets-clause-begins
returns-then-size-octets-clause-begins c =
    let o : AreOctets c.args.octets.now = λ i. omega (arith, c.type_inv.octets i) in
    short_begins c.args.octets.now _ c.from-size.result o c.in-len2-up.len_at_least
    (short_header _ _ c.if-kind-ge1.true c.if-kind-le30.true c.if-len-lt128.true) c.from-size.ensures (omega (arith, c.if-size-octets.true)) refl
