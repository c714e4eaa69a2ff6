use Rattle.std.proofs.Common.{rules}
use Rattle.bcder.specs.calls.RestrictedString.{MeansRestricted}
use Rattle.asn1.proofs.ContentReaders.{takes_content}
use Rattle.asn1.proofs.leaves.characters.take_tagged.Goals as goal

pub returns-clause-took : goal.returns-clause-took
returns-clause-took g c =
    takes_content g.S.Source.stream g.met.S.Source.sound _ c.args.tag (MeansRestricted g.L.CharSet.step) (λ t p r q x. search rules)
    c.args.cons.now c.take_opt_value_if.new.self c.take_opt_value_if.result c.take_opt_value_if.ensures.took
