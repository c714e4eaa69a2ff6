use Rattle.std.proofs.Common.{rules}
use Rattle.bcder.specs.calls.Readers.{IsNull, MeanNothing}
use Rattle.asn1.proofs.Contents.{or_nothing}
use Rattle.asn1.proofs.LeafReaders.{takes_leaf}
use Rattle.asn1.proofs.leaves.plain.UnitDecode.trace_opt_if.Goals as goal

pub returns-clause-took : goal.returns-clause-took
returns-clause-took g c =
    takes_leaf g.S.Source.stream g.met.S.Source.sound _ c.args.tag (λ _. IsNull) (λ _. MeanNothing IsNull) (λ _. or_nothing IsNull)
    (λ t p r q x. search rules) c.args.cons.now c.take_opt_primitive_if.new.self c.take_opt_primitive_if.result c.take_opt_primitive_if.ensures.took
