use Rattle.bcder.specs.calls.RestrictedString.{MeansRestricted}
use Rattle.bcder.specs.calls.Views.{of_constructed}
use Rattle.bcder.proofs.Lemmas.{constructed_is_within_owed}
use Rattle.asn1.proofs.Typed.{next_typed}
use Rattle.asn1.proofs.leaves.characters.take_own.Goals as goal

pub returns-clause-took : goal.returns-clause-took
unfolding of_constructed
returns-clause-took g c =
    let i = of_constructed g.S.Source.stream c.args.cons.now in
    let j = of_constructed g.S.Source.stream c.take_opt_from.new.cons in
    let w = constructed_is_within_owed g.S.Source.stream g.met.S.Source.sound c.args.cons.now in
    next_typed g.L.CharSet.TAG (MeansRestricted g.L.CharSet.step i.mode) i j w c.take_opt_from.result c.take_opt_from.ensures.took
