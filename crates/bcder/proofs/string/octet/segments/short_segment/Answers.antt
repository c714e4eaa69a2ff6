use Rattle.std.proofs.Common.{refl}
use Rattle.bcder.proofs.Segments.{short_segment}
use Rattle.bcder.proofs.string.octet.segments.short_segment.Goals as goal

pub returns-then-size-octets-clause-begins : goal.returns-then-size-octets-clause-begins
returns-then-size-octets-clause-begins c = λ mode. short_segment mode c.args.octets.now _ c.from-len.result _ c.in-len2-up.len_at_least
    c.if-first-eq-OCTET_STRING.true c.from-len.ensures c.if-len-lt128.true refl c.if-size-octets.true refl
