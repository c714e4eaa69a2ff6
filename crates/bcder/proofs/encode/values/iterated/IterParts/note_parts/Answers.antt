use Rattle.std.proofs.Common.{subst, sym, refl, inl, inr, ◌++◌, ◌∷◌, []}
use Rattle.bcder.specs.calls.Iterated.{RunsMean}
use Rattle.bcder.proofs.Joining.{sum_refused}
use Rattle.bcder.proofs.Iterating.{seen_none, seen_next, each_refused, yields_next, item_can, sum_told}
use Rattle.bcder.proofs.encode.values.iterated.IterParts.note_parts.Goals as goal

pub loop-item-init : goal.loop-item-init
loop-item-init g c = seen_none _

pub loop-item-preserved : goal.loop-item-preserved
loop-item-preserved g c =
    seen_next (λ v. g.T.Item.Values.means v c.args.mode) c.in-Some.item c.in_ok-len.len c.loop-item.invariant c.in_ok-len.ensures c.add_len-sum.ensures

pub encoded_len-requires : goal.encoded_len-requires
encoded_len-requires g c =
    let (copy, cloned, made) = c.in-Ok.ensures.items in
    let step = subst (λ r. g.T.IntoIter.Iterator.next_gives c.loop-item.item-iterator r c.next.new.self) c.in-Some.is c.next.ensures.steps in
    let given = subst (g.T.IntoIterator.into_iter_gives copy) (sym c.into_iter-item-iterator.ensures.into_iter_gives) made in
    item_can g.T.IntoIter.Iterator.next_gives g.T.Item.Values.can_encode g.T.Item.Values.means _ c.loop-item.item-iterator c.next.new.self c.loop-item.yielded
    c.requires.items c.in-Some.item
    (c.requires.same copy _ cloned given) c.loop-item.yielded_by step

pub returns-in-Err-clause-sized : goal.returns-in-Err-clause-sized
returns-in-Err-clause-sized g c = record { meant = λ ne. absurd (ne refl); lacking = λ is. inl c.in-Err.ensures.refused }

pub returns-in_err-len-clause-sized : goal.returns-in_err-len-clause-sized
returns-in_err-len-clause-sized g c =
    let M = λ (v : g.row.T-Item.Denot). g.T.Item.Values.means v c.args.mode in
    let (copy, cloned, made) = c.in-Ok.ensures.items in
    let s = c.loop-item.invariant in
    let step = subst (λ r. g.T.IntoIter.Iterator.next_gives c.loop-item.item-iterator r c.next.new.self) c.in-Some.is c.next.ensures.steps in
    let r = c.in_err-len.ensures in
    sum_refused {M = RunsMean g.T.Clone.is_clone g.T.IntoIterator.into_iter_gives g.T.IntoIter.Iterator.next_gives M c.args.self.now.value} _ _
    c.from_residual.ensures (record {
      meant = λ ne. (
        c.loop-item.yielded ++ c.in-Some.item ∷ [],
        record {
          copy = copy;
          cloned = cloned;
          from = c.into_iter-item-iterator.result;
          made = subst (g.T.IntoIterator.into_iter_gives copy) (sym c.into_iter-item-iterator.ensures.into_iter_gives) made;
          to = c.next.new.self;
          ran = yields_next g.T.IntoIter.Iterator.next_gives _ _ _ c.loop-item.yielded c.in-Some.item c.loop-item.yielded_by step;
        },
        each_refused M c.loop-item.yielded c.in-Some.item s.seen _ s.each (r.meant ne),
      );
      lacking = λ e. inr (record {
        before = c.loop-item.yielded;
        begins = record {
          copy = copy;
          cloned = cloned;
          from = c.into_iter-item-iterator.result;
          made = subst (g.T.IntoIterator.into_iter_gives copy) (sym c.into_iter-item-iterator.ensures.into_iter_gives) made;
          to = c.loop-item.item-iterator;
          ran = c.loop-item.yielded_by;
        };
        item = c.in-Some.item;
        left = c.next.new.self;
        gives_item = step;
        may = r.lacking e;
      });
    })

pub returns-clause-sized : goal.returns-clause-sized
returns-clause-sized g c =
    let M = λ (v : g.row.T-Item.Denot). g.T.Item.Values.means v c.args.mode in
    let (copy, cloned, made) = c.in-Ok.ensures.items in
    let s = c.loop-item.invariant in
    let step = subst (λ r. g.T.IntoIter.Iterator.next_gives c.loop-item.item-iterator r c.next.new.self) c.in-None.is c.next.ensures.steps in
    sum_told (RunsMean g.T.Clone.is_clone g.T.IntoIterator.into_iter_gives g.T.IntoIter.Iterator.next_gives M c.args.self.now.value) c.loop-item.sum s.seen (
      c.loop-item.yielded,
      record {
        begins = record {
          copy = copy;
          cloned = cloned;
          from = c.into_iter-item-iterator.result;
          made = subst (g.T.IntoIterator.into_iter_gives copy)
              (sym c.into_iter-item-iterator.ensures.into_iter_gives) made;
          to = c.loop-item.item-iterator;
          ran = c.loop-item.yielded_by;
        };
        left = c.next.new.self;
        ends = step;
      },
      s.each,
    )
    s.is_sum
