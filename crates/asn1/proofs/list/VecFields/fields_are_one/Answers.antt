use Rattle.asn1.proofs.Ones.{one_list, list_left, list_once}
use Rattle.asn1.proofs.list.VecFields.fields_are_one.Goals as goal

pub returns-clause-one : goal.returns-clause-one
returns-clause-one g c = λ mode ts us vs x y.
    one_list (g.T.Type.tags g.T.Type.TAG) (g.T.Type.means mode) g.T.Type.key (c.values_are_one.ensures.one mode) ts us vs x.items y.items

pub returns-clause-left : goal.returns-clause-left
returns-clause-left g c = λ mode ts us x v. list_left (g.T.Type.tags g.T.Type.TAG) (g.T.Type.means mode) g.T.Type.key mode ts us x.items v

pub returns-clause-once : goal.returns-clause-once
returns-clause-once g c = λ k mode ne ts us vs x y v w.
    list_once (g.T.Type.tags g.T.Type.TAG) (g.T.Type.means mode) g.T.Type.key mode (c.values_are_one.ensures.once k mode ne g.T.Type.TAG) ts us vs x.items
    y.items v w
