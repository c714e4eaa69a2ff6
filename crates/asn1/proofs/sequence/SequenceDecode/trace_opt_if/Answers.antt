use Rattle.std.proofs.Common.{rules}
use Rattle.bcder.specs.calls.Views.{of_constructed}
use Rattle.bcder.proofs.Lemmas.{constructed_is_within_owed, constructed_is_not_octets}
use Rattle.asn1.proofs.Enclosed.{next_inside}
use Rattle.asn1.proofs.sequence.SequenceDecode.trace_opt_if.Goals as goal

pub returns-clause-took : goal.returns-clause-took
returns-clause-took g c =
    next_inside (of_constructed g.S.Source.stream) _ c.args.tag g.F.Fields.takes g.F.DecodeFields.may_lack (constructed_is_not_octets g.S.Source.stream)
    (constructed_is_within_owed g.S.Source.stream g.met.S.Source.sound) (λ t p r q x. search rules)
    (of_constructed g.S.Source.stream c.args.cons.now) (of_constructed g.S.Source.stream c.take_opt_constructed_if.new.self)
    (constructed_is_within_owed g.S.Source.stream g.met.S.Source.sound c.args.cons.now) c.take_opt_constructed_if.result c.take_opt_constructed_if.ensures.took
