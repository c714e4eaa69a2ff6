use Rattle.std.proofs.Common.{subst, sym, drop, ◌+◌}
use Rattle.bcder.specs.calls.Meaning.{EachOf}
use Rattle.bcder.proofs.Lemmas.{WrittenSoFar, written_none, written_all, EachOf_at, EachOf_end}
use Rattle.asn1.proofs.Listing.{written_on, written_stopped, stops}
use Rattle.asn1.proofs.written.lists.write_items.Goals as goal

pub loop-item-init : goal.loop-item-init
loop-item-init g c = written_none

pub loop-item-preserved : goal.loop-item-preserved
loop-item-preserved g c =
    let xs = c.args.items.now in
    let x = c.item-item.result in
    let M = λ (v : g.row.T.Denot). g.T.Encode.writes g.T.Type.TAG v c.args.mode in
    let at = EachOf_at M xs c.loop-item.item-index x c.loop-item-test.true c.item-item.is in
    let so_far =
    subst (λ P. WrittenSoFar (EachOf M xs) P (g.W.Write.contents c.args.target.now) (g.W.Write.contents c.loop-item.target)) at c.loop-item.invariant in
    written_on (M x) (EachOf M (drop (c.loop-item.item-index + 1) xs)) (g.T.Encode.may_lack x c.args.mode)
    (g.met.T.Encode.lawful g.T.Type.TAG x c.args.mode).one so_far c.requires c.write_fields.ensures c.in_ok-write_fields.was

pub returns-in_err-write_fields : goal.returns-in_err-write_fields
returns-in_err-write_fields g c = λ e meant.
    let xs = c.args.items.now in
    let x = c.item-item.result in
    let M = λ (v : g.row.T.Denot). g.T.Encode.writes g.T.Type.TAG v c.args.mode in
    let at = EachOf_at M xs c.loop-item.item-index x c.loop-item-test.true c.item-item.is in
    let so_far =
    subst (λ P. WrittenSoFar (EachOf M xs) P (g.W.Write.contents c.args.target.now) (g.W.Write.contents c.loop-item.target)) at c.loop-item.invariant in
    stops _ c.from_residual.ensures
    (written_stopped (M x) (EachOf M (drop (c.loop-item.item-index + 1) xs)) (g.T.Encode.may_lack x c.args.mode)
    (g.met.T.Encode.lawful g.T.Type.TAG x c.args.mode).one so_far c.requires c.write_fields.ensures c.in_err-write_fields.was
    (λ h. (c.loop-item.item-index, x, c.loop-item-test.true, sym c.item-item.is, h)) e meant)

pub returns : goal.returns
returns g c = λ e meant.
    let xs = c.args.items.now in
    let M = λ (v : g.row.T.Denot). g.T.Encode.writes g.T.Type.TAG v c.args.mode in
    let at = EachOf_end M xs c.loop-item.item-index c.loop-item-test.false in
    written_all
    (subst (λ P. WrittenSoFar (EachOf M xs) P (g.W.Write.contents c.args.target.now) (g.W.Write.contents c.loop-item.target)) at c.loop-item.invariant) _ e
    meant
