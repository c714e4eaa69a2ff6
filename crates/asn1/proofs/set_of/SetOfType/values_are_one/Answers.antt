use Rattle.asn1.proofs.SetsOnce.{one_set, set_once, inside_items}
use Rattle.asn1.proofs.set_of.SetOfType.values_are_one.Goals as goal

pub returns-clause-one : goal.returns-clause-one
returns-clause-one g c = λ mode t x y h k.
    one_set mode (g.T.Type.tags g.T.Type.TAG) (g.T.Type.means mode) g.T.Type.key (c.values_are_one.ensures.one mode) t x.items y.items
    (inside_items mode (g.T.Type.tags g.T.Type.TAG) (g.T.Type.means mode) t x h) (inside_items mode (g.T.Type.tags g.T.Type.TAG) (g.T.Type.means mode) t y k)

pub returns-clause-once : goal.returns-clause-once
returns-clause-once g c = λ s mode ne asked t u x y v w d e a b h k q.
    set_once mode ne (g.T.Type.tags g.T.Type.TAG) (g.T.Type.means mode) g.T.Type.key (c.values_are_one.ensures.once s mode ne g.T.Type.TAG) asked t u
    x.items y.items v w d e a b (inside_items mode (g.T.Type.tags g.T.Type.TAG) (g.T.Type.means mode) t x h)
    (inside_items mode (g.T.Type.tags g.T.Type.TAG) (g.T.Type.means mode) u y k) q
