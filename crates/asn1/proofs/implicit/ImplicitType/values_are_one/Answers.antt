use Rattle.asn1.proofs.implicit.ImplicitType.values_are_one.Goals as goal

pub returns-clause-once : goal.returns-clause-once
returns-clause-once g c = λ s mode ne asked t u x y v w d e h k.
    c.values_are_one.ensures.once s mode ne asked t u x y v w d e ((g.met.T.FixedTag.fixed asked _).1 h) ((g.met.T.FixedTag.fixed asked _).1 k)
