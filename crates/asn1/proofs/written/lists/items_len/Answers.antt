use Rattle.std.proofs.Common.{subst, sym, drop, ◌+◌}
use Rattle.bcder.specs.calls.Meaning.{EachOf}
use Rattle.bcder.proofs.Lemmas.{SumSoFar, so_far_start, so_far_next, so_far_refused, so_far_done, sum_refused, EachOf_at, EachOf_end}
use Rattle.asn1.proofs.written.lists.items_len.Goals as goal

pub loop-item-init : goal.loop-item-init
loop-item-init g c = so_far_start _

pub loop-item-preserved : goal.loop-item-preserved
loop-item-preserved g c =
    let xs = c.args.items.now in
    let M = λ (v : g.row.T.Denot). g.T.Encode.writes g.T.Type.TAG v c.args.mode in
    let at = EachOf_at M xs c.loop-item.item-index c.item-item.result c.loop-item-test.true c.item-item.is in
    so_far_next (M c.item-item.result) (EachOf M (drop (c.loop-item.item-index + 1) xs)) c.in_ok-len.len
    (subst (λ P. SumSoFar (EachOf M xs) P c.loop-item.sum) at c.loop-item.invariant) c.in_ok-len.ensures c.add_len-sum.ensures

pub returns-in_err-len : goal.returns-in_err-len
returns-in_err-len g c =
    let xs = c.args.items.now in
    let M = λ (v : g.row.T.Denot). g.T.Encode.writes g.T.Type.TAG v c.args.mode in
    let at = EachOf_at M xs c.loop-item.item-index c.item-item.result c.loop-item-test.true c.item-item.is in
    sum_refused _ _ c.from_residual.ensures
    (so_far_refused (EachOf M (drop (c.loop-item.item-index + 1) xs)) (subst (λ P. SumSoFar (EachOf M xs) P c.loop-item.sum) at c.loop-item.invariant)
    c.in_err-len.ensures (λ h. (c.loop-item.item-index, c.item-item.result, c.loop-item-test.true, sym c.item-item.is, h)))

pub returns : goal.returns
returns g c =
    let xs = c.args.items.now in
    let M = λ (v : g.row.T.Denot). g.T.Encode.writes g.T.Type.TAG v c.args.mode in
    so_far_done (EachOf M xs) c.loop-item.sum
    (subst (λ P. SumSoFar (EachOf M xs) P c.loop-item.sum) (EachOf_end M xs c.loop-item.item-index c.loop-item-test.false) c.loop-item.invariant)
