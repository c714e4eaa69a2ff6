use Rattle.std.proofs.Common.{subst, sym, drop, ◌+◌}
use Rattle.bcder.specs.calls.Meaning.{EachOf}
use Rattle.bcder.specs.calls.Iterated.{ItemMeans, ItemLacks, MayMap}
use Rattle.bcder.proofs.Writing.{halts, lacks_more, same_result}
use Rattle.bcder.proofs.Joining.{WrittenSoFar, written_start, next_known, written_next, written_failed, written_done, EachOf_at, EachOf_end}
use Rattle.bcder.proofs.encode.values.mapped.MappedParts.write_parts.Goals as goal

pub loop-item-init : goal.loop-item-init
loop-item-init g c = written_start

pub write_item-requires : goal.write_item-requires
write_item-requires g c =
    let xs = c.args.self.now.items.now in
    let u = c.item-item.result in
    let M = ItemMeans g.F.Fn c.args.self.now.f.now g.V.Values.means c.args.mode in
    let at = EachOf_at M xs c.loop-item.item-index u c.loop-item-test.true c.item-item.is in
    let so_far = subst (λ P. WrittenSoFar (EachOf M xs) P (g.W.Write.contents c.args.target.now) (g.W.Write.contents c.loop-item.target)) at
    c.loop-item.invariant in
    record {
      may = subst (MayMap g.F.Fn c.args.self.now.f.now g.V.Values.can_encode g.V.Values.means) (sym c.item-item.is)
          (c.requires.can c.loop-item.item-index c.item-item.result c.loop-item-test.true);
      known = next_known (M u) (EachOf M (drop (c.loop-item.item-index + 1) xs)) so_far c.requires.known;
    }

pub loop-item-preserved : goal.loop-item-preserved
loop-item-preserved g c =
    let xs = c.args.self.now.items.now in
    let u = c.item-item.result in
    let M = ItemMeans g.F.Fn c.args.self.now.f.now g.V.Values.means c.args.mode in
    let at = EachOf_at M xs c.loop-item.item-index u c.loop-item-test.true c.item-item.is in
    let so_far = subst (λ P. WrittenSoFar (EachOf M xs) P (g.W.Write.contents c.args.target.now) (g.W.Write.contents c.loop-item.target)) at
    c.loop-item.invariant in
    let L = ItemLacks g.F.Fn c.args.self.now.f.now g.V.Values.may_lack c.args.mode u in
    written_next (M u) (EachOf M (drop (c.loop-item.item-index + 1) xs)) L so_far c.write_item.ensures (same_result _ c.in_ok-write_item.was)

pub returns-in_err-write_item-clause-written : goal.returns-in_err-write_item-clause-written
returns-in_err-write_item-clause-written g c = λ e meant.
    let xs = c.args.self.now.items.now in
    let u = c.item-item.result in
    let M = ItemMeans g.F.Fn c.args.self.now.f.now g.V.Values.means c.args.mode in
    let at = EachOf_at M xs c.loop-item.item-index u c.loop-item-test.true c.item-item.is in
    let so_far = subst (λ P. WrittenSoFar (EachOf M xs) P (g.W.Write.contents c.args.target.now) (g.W.Write.contents c.loop-item.target)) at
    c.loop-item.invariant in
    let L = ItemLacks g.F.Fn c.args.self.now.f.now g.V.Values.may_lack c.args.mode u in
    halts _ c.from_residual.ensures (lacks_more _ (λ h. (c.loop-item.item-index, u, c.loop-item-test.true, sym c.item-item.is, h))
    (written_failed (M u) (EachOf M (drop (c.loop-item.item-index + 1) xs)) L so_far c.write_item.ensures (same_result _ c.in_err-write_item.was) e meant))

pub returns-clause-written : goal.returns-clause-written
returns-clause-written g c = λ e meant.
    let xs = c.args.self.now.items.now in
    let M = ItemMeans g.F.Fn c.args.self.now.f.now g.V.Values.means c.args.mode in
    let at = EachOf_end M xs c.loop-item.item-index c.loop-item-test.false in
    written_done (subst (λ P. WrittenSoFar (EachOf M xs) P (g.W.Write.contents c.args.target.now) (g.W.Write.contents c.loop-item.target)) at
    c.loop-item.invariant) _ e meant
