use Rattle.std.proofs.Common.{rules}
use Rattle.bcder.specs.x690.Integer.{AreInteger}
use Rattle.bcder.specs.calls.Readers.{NoInteger}
use Rattle.asn1.proofs.LeafReaders.{takes_leaf, or_memory}
use Rattle.asn1.proofs.leaves.integers.IntegerDecode.trace_opt_if.Goals as goal

pub returns-clause-took : goal.returns-clause-took
returns-clause-took g c =
    takes_leaf g.S.Source.stream g.met.S.Source.sound _ c.args.tag (λ _ w z. AreInteger z w) (λ _. NoInteger) (λ _. or_memory (λ w z. AreInteger z w) _)
    (λ t p r q x. search rules) c.args.cons.now c.take_opt_primitive_if.new.self c.take_opt_primitive_if.result c.take_opt_primitive_if.ensures.took
