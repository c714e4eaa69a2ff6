use Rattle.std.proofs.Common.{subst, sym, drop, ◌+◌}
use Rattle.bcder.specs.calls.Meaning.{EachOf}
use Rattle.bcder.specs.calls.Noted.{ReadsEach}
use Rattle.bcder.proofs.Joining.{SumSoFar, so_far_start, so_far_next, so_far_refused, so_far_done, sum_refused, EachOf_at, EachOf_end}
use Rattle.bcder.proofs.Noting.{NotedSoFar, noted_start, noted_next, noted_done, ReadsEach_at, ReadsEach_end}
use Rattle.bcder.proofs.encode.values.lists.ItemsParts.note_parts.Goals as goal

pub loop-item-init : goal.loop-item-init
loop-item-init g c = (so_far_start _, noted_start)

pub loop-item-preserved : goal.loop-item-preserved
loop-item-preserved g c =
    let xs = c.args.self.now.items.now in
    let x = c.item-item.result in
    let M = λ (v : g.row.V.Denot). g.V.Values.means v c.args.mode in
    let R = λ (v : g.row.V.Denot). g.V.Values.reads v c.args.mode in
    let at = EachOf_at M xs c.loop-item.item-index x c.loop-item-test.true c.item-item.is in
    let reads_at = ReadsEach_at R xs c.loop-item.item-index x c.loop-item-test.true c.item-item.is in (
      so_far_next (M x) (EachOf M (drop (c.loop-item.item-index + 1) xs)) c.in_ok-len.len
          (subst (λ P. SumSoFar (EachOf M xs) P c.loop-item.sum) at c.loop-item.invariant.0) c.in_ok-len.ensures.sized c.add_len-sum.ensures,
      noted_next (R x) (ReadsEach R (drop (c.loop-item.item-index + 1) xs))
          (subst (λ P. NotedSoFar (ReadsEach R xs) P c.args.sizes.now c.loop-item.sizes) reads_at c.loop-item.invariant.1) c.in_ok-len.ensures.noted,
    )

pub returns-in_err-len-clause-sized : goal.returns-in_err-len-clause-sized
returns-in_err-len-clause-sized g c =
    let xs = c.args.self.now.items.now in
    let M = λ (v : g.row.V.Denot). g.V.Values.means v c.args.mode in
    let at = EachOf_at M xs c.loop-item.item-index c.item-item.result c.loop-item-test.true c.item-item.is in
    sum_refused _ _ c.from_residual.ensures
    (so_far_refused (EachOf M (drop (c.loop-item.item-index + 1) xs)) (subst (λ P. SumSoFar (EachOf M xs) P c.loop-item.sum) at c.loop-item.invariant.0)
    c.in_err-len.ensures.sized (λ h. (c.loop-item.item-index, c.item-item.result, c.loop-item-test.true, sym c.item-item.is, h)))

pub returns-clause-sized : goal.returns-clause-sized
returns-clause-sized g c =
    let xs = c.args.self.now.items.now in
    let M = λ (v : g.row.V.Denot). g.V.Values.means v c.args.mode in
    so_far_done (EachOf M xs) c.loop-item.sum
    (subst (λ P. SumSoFar (EachOf M xs) P c.loop-item.sum) (EachOf_end M xs c.loop-item.item-index c.loop-item-test.false) c.loop-item.invariant.0)

pub returns-clause-noted : goal.returns-clause-noted
returns-clause-noted g c =
    let xs = c.args.self.now.items.now in
    let R = λ (v : g.row.V.Denot). g.V.Values.reads v c.args.mode in
    noted_done (subst (λ P. NotedSoFar (ReadsEach R xs) P c.args.sizes.now c.loop-item.sizes)
    (ReadsEach_end R xs c.loop-item.item-index c.loop-item-test.false) c.loop-item.invariant.1)
