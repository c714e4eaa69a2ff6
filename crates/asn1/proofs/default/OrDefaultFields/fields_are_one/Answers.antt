use Rattle.asn1.proofs.Defaulted.{one_default, default_left, default_once}
use Rattle.asn1.proofs.default.OrDefaultFields.fields_are_one.Goals as goal

pub returns-clause-one : goal.returns-clause-one
returns-clause-one g c = λ mode ts us vs x y.
    one_default mode (g.T.Type.tags g.T.Type.TAG) (g.T.Type.means mode) g.T.Type.key (g.T.Type.key g.D.DefaultValue.default) (c.values_are_one.ensures.one mode)
    ts us vs x y

pub returns-clause-left : goal.returns-clause-left
returns-clause-left g c = λ mode ts us x.
    default_left mode (g.T.Type.tags g.T.Type.TAG) (g.T.Type.means mode) g.T.Type.key (g.T.Type.key g.D.DefaultValue.default) ts us x

pub returns-clause-once : goal.returns-clause-once
returns-clause-once g c = λ k mode ne ts us vs x y.
    default_once mode (g.T.Type.tags g.T.Type.TAG) (g.T.Type.means mode) g.T.Type.key (g.T.Type.key g.D.DefaultValue.default) ne
    (c.values_are_one.ensures.once k mode ne g.T.Type.TAG) ts us vs x y
