use Rattle.asn1.proofs.Ones.{one_pair}
use Rattle.asn1.proofs.fields.Tuple2Fields.fields_are_one.Goals as goal

pub returns-clause-one : goal.returns-clause-one
returns-clause-one g c = λ mode.
    one_pair (g.A.Fields.takes mode) (g.B.Fields.takes mode) g.A.Fields.keys g.B.Fields.keys (c.fields_are_one.ensures.one mode)
    (c.fields_are_one-2.ensures.one mode)
