use Rattle.std.proofs.Common.{Any, ap, subst}
use Rattle.bcder.specs.laws.Listed.{vec_lacks}
use Rattle.bcder.proofs.Lemmas.{if_refused, wants_where_it_lacks}
use Rattle.writers.proofs.lists.write_each.Goals as goal

pub returns : goal.returns
returns g c =
    let L = λ (v : g.row.V.Denot). g.V.Values.may_lack v c.args.mode in
    if_refused c.write_encoded.result _ _
    (λ e wants is. subst (Any L) (ap (λ i. i.value.now.items) c.iter.ensures)
    (vec_lacks (λ s r t h. h) (λ y h. h) (λ _. Unit {0}) tt (λ s t h. h) (λ s i h. h.0) (wants is)))
    (wants_where_it_lacks c.write_encoded.result c.write_encoded.ensures)
