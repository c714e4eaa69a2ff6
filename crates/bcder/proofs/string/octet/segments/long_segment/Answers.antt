use Rattle.std.proofs.Common.{refl, arith}
use Rattle.bcder.proofs.Segments.{long_segment}
use Rattle.bcder.proofs.string.octet.segments.long_segment.Goals as goal

pub returns-then-size-octets-clause-begins : goal.returns-then-size-octets-clause-begins
returns-then-size-octets-clause-begins c = λ mode. long_segment mode c.args.octets.now _ _ _ c.in-len4-up.len_at_least c.if-first-eq-OCTET_STRING.true
    c.if-count.true (omega (arith, c.from.ensures, c.from-in-len4-up.ensures)) c.if-len-ge256.true refl c.if-size-octets.true refl
