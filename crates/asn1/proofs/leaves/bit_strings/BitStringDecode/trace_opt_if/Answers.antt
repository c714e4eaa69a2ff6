use Rattle.std.proofs.Common.{rules}
use Rattle.bcder.specs.calls.Readers.{NoBits}
use Rattle.bcder.specs.x690.BitString.{IsBitString}
use Rattle.asn1.specs.Types.{IsLeaf}
use Rattle.asn1.proofs.BitKeys.{no_bits}
use Rattle.asn1.proofs.ContentReaders.{takes_content, reads_leaf}
use Rattle.asn1.proofs.leaves.bit_strings.BitStringDecode.trace_opt_if.Goals as goal

pub returns-clause-took : goal.returns-clause-took
returns-clause-took g c =
    takes_content g.S.Source.stream g.met.S.Source.sound _ c.args.tag (λ m. IsLeaf (IsBitString m))
    (λ t p r q x. reads_leaf g.S.Source.stream IsBitString NoBits no_bits p.now q.now r (search rules) (search rules) (search rules))
    c.args.cons.now c.take_opt_value_if.new.self c.take_opt_value_if.result c.take_opt_value_if.ensures.took
