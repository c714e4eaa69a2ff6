use Rattle.std.proofs.Common.{subst, sym, drop, ◌+◌}
use Rattle.bcder.specs.calls.Meaning.{EachOf}
use Rattle.bcder.specs.calls.Iterated.{ItemMeans, MayMap}
use Rattle.bcder.proofs.Joining.{SumSoFar, so_far_start, so_far_next, so_far_refused, so_far_done, sum_refused, EachOf_at, EachOf_end}
use Rattle.bcder.proofs.encode.values.mapped.MappedParts.note_parts.Goals as goal

pub loop-item-init : goal.loop-item-init
loop-item-init g c = so_far_start _

pub item_len-requires : goal.item_len-requires
item_len-requires g c = subst (MayMap g.F.Fn c.args.self.now.f.now g.V.Values.can_encode g.V.Values.means) (sym c.item-item.is)
    (c.requires c.loop-item.item-index c.item-item.result c.loop-item-test.true)

pub loop-item-preserved : goal.loop-item-preserved
loop-item-preserved g c =
    let xs = c.args.self.now.items.now in
    let u = c.item-item.result in
    let M = ItemMeans g.F.Fn c.args.self.now.f.now g.V.Values.means c.args.mode in
    let at = EachOf_at M xs c.loop-item.item-index u c.loop-item-test.true c.item-item.is in
    let so_far = subst (λ P. SumSoFar (EachOf M xs) P c.loop-item.sum) at c.loop-item.invariant in
    so_far_next (M u) (EachOf M (drop (c.loop-item.item-index + 1) xs)) c.in_ok-len.len so_far c.in_ok-len.ensures c.add_len-sum.ensures

pub returns-in_err-len-clause-sized : goal.returns-in_err-len-clause-sized
returns-in_err-len-clause-sized g c =
    let xs = c.args.self.now.items.now in
    let u = c.item-item.result in
    let M = ItemMeans g.F.Fn c.args.self.now.f.now g.V.Values.means c.args.mode in
    let at = EachOf_at M xs c.loop-item.item-index u c.loop-item-test.true c.item-item.is in
    let so_far = subst (λ P. SumSoFar (EachOf M xs) P c.loop-item.sum) at c.loop-item.invariant in
    sum_refused _ _ c.from_residual.ensures (so_far_refused (EachOf M (drop (c.loop-item.item-index + 1) xs)) so_far
    c.in_err-len.ensures (λ h. (c.loop-item.item-index, u, c.loop-item-test.true, sym c.item-item.is, h)))

pub returns-clause-sized : goal.returns-clause-sized
returns-clause-sized g c =
    let xs = c.args.self.now.items.now in
    let M = ItemMeans g.F.Fn c.args.self.now.f.now g.V.Values.means c.args.mode in
    let at = EachOf_end M xs c.loop-item.item-index c.loop-item-test.false in
    so_far_done (EachOf M xs) c.loop-item.sum (subst (λ P. SumSoFar (EachOf M xs) P c.loop-item.sum) at c.loop-item.invariant)
