use Rattle.bcder.specs.calls.Views.{of_constructed}
use Rattle.bcder.proofs.Lemmas.{constructed_is_within_owed, constructed_is_not_octets}
use Rattle.asn1.proofs.Kept.{next_kept}
use Rattle.asn1.proofs.any.AnyDecode.trace_opt_if.Goals as goal

pub returns-clause-took : goal.returns-clause-took
returns-clause-took g c =
    let i = of_constructed g.S.Source.stream c.args.cons.now in
    let j = of_constructed g.S.Source.stream c.take_opt.new.cons in
    let w = constructed_is_within_owed g.S.Source.stream g.met.S.Source.sound c.args.cons.now in
    let f = constructed_is_not_octets g.S.Source.stream c.args.cons.now in
    next_kept i j w f c.args._tag c.take_opt.result c.take_opt.ensures.captured
