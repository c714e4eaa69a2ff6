use Rattle.std.proofs.Common.{subst, sym, drop, ◌+◌}
use Rattle.bcder.specs.calls.Meaning.{EachOf}
use Rattle.bcder.specs.calls.Noted.{ReadsEach}
use Rattle.bcder.proofs.Writing.{halts, lacks_more, same_result}
use Rattle.bcder.proofs.Joining.{WrittenSoFar, written_start, next_known, written_next, written_failed, written_done, EachOf_at, EachOf_end}
use Rattle.bcder.proofs.Noting.{first_may, ReadSoFar, read_start, read_next, read_done, ReadsEach_at, ReadsEach_end}
use Rattle.bcder.proofs.encode.values.lists.ItemsParts.write_parts.Goals as goal

pub loop-item-init : goal.loop-item-init
loop-item-init g c = (written_start, read_start c.requires.sized)

pub write_known-requires : goal.write_known-requires
write_known-requires g c =
    let xs = c.args.self.now.items.now in
    let x = c.item-item.result in
    let M = λ (v : g.row.V.Denot). g.V.Values.means v c.args.mode in
    let at = EachOf_at M xs c.loop-item.item-index x c.loop-item-test.true c.item-item.is in
    let so_far = subst (λ P. WrittenSoFar (EachOf M xs) P (g.W.Write.contents c.args.target.now) (g.W.Write.contents c.loop-item.target)) at
    c.loop-item.invariant.0 in
    let R = λ (v : g.row.V.Denot). g.V.Values.reads v c.args.mode in
    let reads_at = ReadsEach_at R xs c.loop-item.item-index x c.loop-item-test.true c.item-item.is in
    let read = subst (λ P. ReadSoFar (ReadsEach R xs) P c.args.sizes.now.sizes.now c.loop-item.sizes.sizes.now) reads_at c.loop-item.invariant.1 in
    record {
      can = subst g.V.Values.can_encode (sym c.item-item.is) (c.requires.can c.loop-item.item-index x c.loop-item-test.true);
      sized = first_may (R x) (ReadsEach R (drop (c.loop-item.item-index + 1) xs)) _ read.may;
      known = next_known (M x) (EachOf M (drop (c.loop-item.item-index + 1) xs)) so_far c.requires.known;
    }

pub loop-item-preserved : goal.loop-item-preserved
loop-item-preserved g c =
    let xs = c.args.self.now.items.now in
    let x = c.item-item.result in
    let M = λ (v : g.row.V.Denot). g.V.Values.means v c.args.mode in
    let at = EachOf_at M xs c.loop-item.item-index x c.loop-item-test.true c.item-item.is in
    let so_far = subst (λ P. WrittenSoFar (EachOf M xs) P (g.W.Write.contents c.args.target.now) (g.W.Write.contents c.loop-item.target)) at
    c.loop-item.invariant.0 in
    let can = subst g.V.Values.can_encode (sym c.item-item.is) (c.requires.can c.loop-item.item-index x c.loop-item-test.true) in
    let one = (g.met.V.Values.lawful x c.args.mode can).one in
    let R = λ (v : g.row.V.Denot). g.V.Values.reads v c.args.mode in
    let reads_at = ReadsEach_at R xs c.loop-item.item-index x c.loop-item-test.true c.item-item.is in
    let read = subst (λ P. ReadSoFar (ReadsEach R xs) P c.args.sizes.now.sizes.now c.loop-item.sizes.sizes.now) reads_at c.loop-item.invariant.1 in (
      written_next (M x) (EachOf M (drop (c.loop-item.item-index + 1) xs)) (g.V.Values.may_lack x c.args.mode) so_far (c.write_known.ensures.written one)
          (same_result _ c.in_ok-write_known.was),
      read_next (R x) (ReadsEach R (drop (c.loop-item.item-index + 1) xs)) read c.in_ok-write_known.ensures.left,
    )

pub returns-in_err-write_known-clause-written : goal.returns-in_err-write_known-clause-written
returns-in_err-write_known-clause-written g c = λ e meant.
    let xs = c.args.self.now.items.now in
    let x = c.item-item.result in
    let M = λ (v : g.row.V.Denot). g.V.Values.means v c.args.mode in
    let at = EachOf_at M xs c.loop-item.item-index x c.loop-item-test.true c.item-item.is in
    let so_far = subst (λ P. WrittenSoFar (EachOf M xs) P (g.W.Write.contents c.args.target.now) (g.W.Write.contents c.loop-item.target)) at
    c.loop-item.invariant.0 in
    let can = subst g.V.Values.can_encode (sym c.item-item.is) (c.requires.can c.loop-item.item-index x c.loop-item-test.true) in
    let one = (g.met.V.Values.lawful x c.args.mode can).one in
    halts _ c.from_residual.ensures (lacks_more _ (λ h. (c.loop-item.item-index, x, c.loop-item-test.true, sym c.item-item.is, h))
    (written_failed (M x) (EachOf M (drop (c.loop-item.item-index + 1) xs)) (g.V.Values.may_lack x c.args.mode) so_far (c.write_known.ensures.written one)
    (same_result _ c.in_err-write_known.was) e meant))

pub returns-clause-written : goal.returns-clause-written
returns-clause-written g c = λ e meant.
    let xs = c.args.self.now.items.now in
    let M = λ (v : g.row.V.Denot). g.V.Values.means v c.args.mode in
    let at = EachOf_end M xs c.loop-item.item-index c.loop-item-test.false in
    written_done (subst (λ P. WrittenSoFar (EachOf M xs) P (g.W.Write.contents c.args.target.now) (g.W.Write.contents c.loop-item.target)) at
    c.loop-item.invariant.0) _ e meant

pub returns-clause-left : goal.returns-clause-left
returns-clause-left g c =
    let xs = c.args.self.now.items.now in
    let R = λ (v : g.row.V.Denot). g.V.Values.reads v c.args.mode in
    read_done (subst (λ P. ReadSoFar (ReadsEach R xs) P c.args.sizes.now.sizes.now c.loop-item.sizes.sizes.now)
    (ReadsEach_end R xs c.loop-item.item-index c.loop-item-test.false) c.loop-item.invariant.1)
