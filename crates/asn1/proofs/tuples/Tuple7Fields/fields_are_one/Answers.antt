use Rattle.asn1.specs.Tuples.{grouped_7}
use Rattle.asn1.proofs.tuples.Tuple7Fields.fields_are_one.Goals as goal

pub returns-clause-one : goal.returns-clause-one
returns-clause-one g c = λ mode ts us vs x y. c.fields_are_one.ensures.one mode ts us vs (grouped_7 x) (grouped_7 y)

pub returns-clause-left : goal.returns-clause-left
returns-clause-left g c = λ mode ts us x. c.fields_are_one.ensures.left mode ts us (grouped_7 x)

pub returns-clause-once : goal.returns-clause-once
returns-clause-once g c = λ k mode ne ts us vs x y. c.fields_are_one.ensures.once k mode ne ts us vs (grouped_7 x) (grouped_7 y)
