use Rattle.std.proofs.Common.{true, rules}
use Rattle.std.specs.declared.vec.Vec.{Vec}
use Rattle.std.specs.declared.alloc.Global.{Global}
use Rattle.bcder.specs.declared.mode.Mode.{Mode}
use Rattle.bcder.specs.x690.Tree.{Trees}
use Rattle.bcder.specs.calls.Views.{of_constructed}
use Rattle.bcder.proofs.Lemmas.{constructed_is_within_owed, constructed_is_not_octets}
use Rattle.asn1.specs.SetsOf.{AreSetOf}
use Rattle.asn1.proofs.Enclosed.{next_inside}
use Rattle.asn1.proofs.set_of.take_set_of.Goals as goal

pub returns-clause-took : goal.returns-clause-took
returns-clause-took g c =
    let Takes = λ (mode : Mode) (ts : Trees) (y : Vec g.row.T.Denot Global) (us : Trees).
    AreSetOf mode (g.T.Type.tags g.T.Type.TAG) (g.T.Type.means mode) ts y.items us in
    next_inside (of_constructed g.S.Source.stream) _ c.args.tag Takes true (constructed_is_not_octets g.S.Source.stream)
    (constructed_is_within_owed g.S.Source.stream g.met.S.Source.sound) (λ t p r q x. search rules)
    (of_constructed g.S.Source.stream c.args.cons.now) (of_constructed g.S.Source.stream c.take_opt_constructed_if.new.self)
    (constructed_is_within_owed g.S.Source.stream g.met.S.Source.sound c.args.cons.now) c.take_opt_constructed_if.result c.take_opt_constructed_if.ensures.took
