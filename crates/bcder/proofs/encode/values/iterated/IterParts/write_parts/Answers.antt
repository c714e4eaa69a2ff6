use Rattle.std.proofs.Common.{subst, sym, refl, inr, [], Ok}
use Rattle.std.proofs.KnownBytes.{Appends-nil}
use Rattle.bcder.specs.calls.Meaning.{Encoded}
use Rattle.bcder.specs.calls.Meaning.{EachOf}
use Rattle.bcder.specs.calls.Iterated.{RunsMean}
use Rattle.bcder.specs.laws.Composed.{as_listed, none_left, to_second}
use Rattle.bcder.proofs.Writing.{halts, lacks_more, same_result}
use Rattle.bcder.proofs.Joining.{WrittenSoFar, next_known, written_next, written_failed, written_done}
use Rattle.bcder.proofs.Iterating.{next_of}
use Rattle.bcder.proofs.Noting.{nothing_left}
use Rattle.bcder.proofs.encode.values.iterated.IterParts.write_parts.Goals as goal

pub loop-item-init : goal.loop-item-init
loop-item-init g c =
    let (copy, cloned, made) = c.in-Ok.ensures.items in
    let given = subst (g.T.IntoIterator.into_iter_gives copy) (sym c.into_iter-item-iterator.ensures.into_iter_gives) made in
    record {
      rest = c.requires.can.items;
      gives = c.requires.can.same copy _ cloned given;
      so_far = record { splits = λ e m. ([], e, as_listed c.requires.can c.args.mode (Ok e) m, refl, Appends-nil _) };
    }

pub write_known-requires : goal.write_known-requires
write_known-requires g c =
    let M = λ (v : g.row.T-Item.Denot). g.T.Item.Values.means v c.args.mode in
    let Means = RunsMean g.T.Clone.is_clone g.T.IntoIterator.into_iter_gives g.T.IntoIter.Iterator.next_gives M c.args.self.now.value in
    let x = c.in-Some.item in
    let run = c.loop-item.invariant in
    let step = subst (λ r. g.T.IntoIter.Iterator.next_gives c.loop-item.item-iterator r c.next.new.self) c.in-Some.is c.next.ensures.steps in
    let next = next_of g.T.IntoIter.Iterator.next_gives g.T.Item.Values.can_encode g.T.Item.Values.means _ _ run.rest x run.gives step in
    let so_far =
    subst (λ l. WrittenSoFar Means (EachOf M l) (g.W.Write.contents c.args.target.now) (g.W.Write.contents c.loop-item.target)) next.is run.so_far in
    let known = next_known (M next.first) (EachOf M next.others) so_far c.requires.known in
    record {
      can = next.may;
      sized = nothing_left _ _ c.none.ensures;
      known = (known.0, to_second g.T.Item.Values.means next.first x next.same c.args.mode (Ok known.0) known.1);
    }

pub loop-item-preserved : goal.loop-item-preserved
loop-item-preserved g c =
    let M = λ (v : g.row.T-Item.Denot). g.T.Item.Values.means v c.args.mode in
    let Means = RunsMean g.T.Clone.is_clone g.T.IntoIterator.into_iter_gives g.T.IntoIter.Iterator.next_gives M c.args.self.now.value in
    let x = c.in-Some.item in
    let run = c.loop-item.invariant in
    let step = subst (λ r. g.T.IntoIter.Iterator.next_gives c.loop-item.item-iterator r c.next.new.self) c.in-Some.is c.next.ensures.steps in
    let next = next_of g.T.IntoIter.Iterator.next_gives g.T.Item.Values.can_encode g.T.Item.Values.means _ _ run.rest x run.gives step in
    let so_far =
    subst (λ l. WrittenSoFar Means (EachOf M l) (g.W.Write.contents c.args.target.now) (g.W.Write.contents c.loop-item.target)) next.is run.so_far in
    let one = (g.met.T.Item.Values.lawful x c.args.mode next.may).one in
    let wrote = λ (e : Encoded) (m : M next.first (Ok e)). c.write_known.ensures.written one e
    (to_second g.T.Item.Values.means next.first x next.same c.args.mode (Ok e) m) in
    let lacks = g.T.Item.Values.may_lack x c.args.mode in
    record {
      rest = next.others;
      gives = next.gives;
      so_far = written_next (M next.first) (EachOf M next.others) lacks so_far wrote (same_result _ c.in_ok-write_known.was);
    }

pub returns-in_err-write_known-clause-written : goal.returns-in_err-write_known-clause-written
returns-in_err-write_known-clause-written g c = λ e meant.
    let M = λ (v : g.row.T-Item.Denot). g.T.Item.Values.means v c.args.mode in
    let Means = RunsMean g.T.Clone.is_clone g.T.IntoIterator.into_iter_gives g.T.IntoIter.Iterator.next_gives M c.args.self.now.value in
    let x = c.in-Some.item in
    let run = c.loop-item.invariant in
    let step = subst (λ r. g.T.IntoIter.Iterator.next_gives c.loop-item.item-iterator r c.next.new.self) c.in-Some.is c.next.ensures.steps in
    let next = next_of g.T.IntoIter.Iterator.next_gives g.T.Item.Values.can_encode g.T.Item.Values.means _ _ run.rest x run.gives step in
    let so_far =
    subst (λ l. WrittenSoFar Means (EachOf M l) (g.W.Write.contents c.args.target.now) (g.W.Write.contents c.loop-item.target)) next.is run.so_far in
    let one = (g.met.T.Item.Values.lawful x c.args.mode next.may).one in
    let wrote = λ (e : Encoded) (m : M next.first (Ok e)). c.write_known.ensures.written one e
    (to_second g.T.Item.Values.means next.first x next.same c.args.mode (Ok e) m) in
    let lacks = g.T.Item.Values.may_lack x c.args.mode in
    let (copy, cloned, made) = c.in-Ok.ensures.items in
    let item_lacks = λ (h : lacks). inr (record {
      before = c.loop-item.yielded;
      begins = record {
        copy = copy;
        cloned = cloned;
        from = c.into_iter-item-iterator.result;
        made = subst (g.T.IntoIterator.into_iter_gives copy) (sym c.into_iter-item-iterator.ensures.into_iter_gives) made;
        to = c.loop-item.item-iterator;
        ran = c.loop-item.yielded_by;
      };
      item = x;
      left = c.next.new.self;
      gives_item = step;
      may = h;
    })
    in
    halts _ c.from_residual.ensures
    (lacks_more _ item_lacks (written_failed (M next.first) (EachOf M next.others) lacks so_far wrote (same_result _ c.in_err-write_known.was) e meant))

pub returns-clause-written : goal.returns-clause-written
returns-clause-written g c = λ e meant.
    let M = λ (v : g.row.T-Item.Denot). g.T.Item.Values.means v c.args.mode in
    let Means = RunsMean g.T.Clone.is_clone g.T.IntoIterator.into_iter_gives g.T.IntoIter.Iterator.next_gives M c.args.self.now.value in
    let run = c.loop-item.invariant in
    let step = subst (λ r. g.T.IntoIter.Iterator.next_gives c.loop-item.item-iterator r c.next.new.self) c.in-None.is c.next.ensures.steps in
    let none = none_left g.T.IntoIter.Iterator.next_gives g.T.Item.Values.can_encode g.T.Item.Values.means _ _ run.rest run.gives step in
    written_done
    (subst (λ l. WrittenSoFar Means (EachOf M l) (g.W.Write.contents c.args.target.now) (g.W.Write.contents c.loop-item.target)) none run.so_far) _ e meant
