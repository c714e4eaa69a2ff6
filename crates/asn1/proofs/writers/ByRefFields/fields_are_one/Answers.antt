use Rattle.asn1.proofs.writers.ByRefFields.fields_are_one.Goals as goal

pub returns-clause-one : goal.returns-clause-one
returns-clause-one g c = λ mode ts us vs x y. c.fields_are_one.ensures.one mode ts us vs x.0.now y.0.now
