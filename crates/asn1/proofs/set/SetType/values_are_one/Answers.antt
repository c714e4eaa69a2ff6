use Rattle.asn1.proofs.SetTaken.{one_set, set_once}
use Rattle.asn1.proofs.set.SetType.values_are_one.Goals as goal

pub returns-clause-one : goal.returns-clause-one
returns-clause-one g c = λ mode. one_set mode g.F.SetOrder.place (g.F.Fields.takes mode) g.F.Fields.keys (c.fields_are_one.ensures.one mode)

pub returns-clause-once : goal.returns-clause-once
returns-clause-once g c = λ s mode ne. set_once mode g.F.SetOrder.place (g.F.Fields.takes mode) g.F.Fields.keys ne (c.fields_are_one.ensures.once s mode ne)
