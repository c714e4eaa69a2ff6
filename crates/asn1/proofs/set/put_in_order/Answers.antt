use Rattle.std.proofs.Common.{sym, subst}
use Rattle.asn1.specs.Sets.{Rise, kept_place_in}
use Rattle.asn1.proofs.ByTag.{rise_if_any}
use Rattle.asn1.proofs.set.put_in_order.Goals as goal

pub returns-clause-no : goal.returns-clause-no
returns-clause-no g c = λ f ks o.
    let Place = g.O.SetOrder.place in
    let s = c.sort.ensures in
    c.ascend.ensures.no f
    (subst (Rise (kept_place_in Place)) (sym c.as_slice.ensures.value)
    (rise_if_any c.args.mode Place c.args.values.now.items c.sort.new.values.items ks s.rearranged s.in_place s.sorted o))
