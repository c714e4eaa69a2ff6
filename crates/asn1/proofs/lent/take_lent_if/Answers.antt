use Rattle.std.proofs.Common.{rules}
use Rattle.bcder.specs.calls.Readers.{MeanNothing}
use Rattle.asn1.specs.Lent.{IsLent}
use Rattle.asn1.proofs.Contents.{or_nothing}
use Rattle.asn1.proofs.LeafReaders.{takes_leaf}
use Rattle.asn1.proofs.lent.take_lent_if.Goals as goal

pub returns-clause-took : goal.returns-clause-took
returns-clause-took g c =
    let lent = IsLent g.S.Lent.AsSlice.items in
    takes_leaf g.S.Source.stream g.met.S.Source.sound _ c.args.tag lent (λ m. MeanNothing (lent m)) (λ m. or_nothing (lent m))
    (λ t p r q x. search rules) c.args.cons.now c.take_opt_primitive_if.new.self c.take_opt_primitive_if.result c.take_opt_primitive_if.ensures.took
