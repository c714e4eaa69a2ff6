use Rattle.std.proofs.Common.{rules}
use Rattle.bcder.specs.calls.Readers.{MeanNothing}
use Rattle.asn1.proofs.Contents.{or_nothing}
use Rattle.asn1.proofs.LeafReaders.{takes_leaf}
use Rattle.asn1.proofs.leaves.numbers.take_number.Goals as goal

pub returns-clause-took : goal.returns-clause-took
returns-clause-took g c =
    takes_leaf g.S.Source.stream g.met.S.Source.sound _ c.args.tag (λ _. g.N.ReadNumber.read) (λ _. MeanNothing g.N.ReadNumber.read)
    (λ _. or_nothing g.N.ReadNumber.read)
    (λ t p r q x. search rules) c.args.cons.now c.take_opt_primitive_if.new.self c.take_opt_primitive_if.result c.take_opt_primitive_if.ensures.took
