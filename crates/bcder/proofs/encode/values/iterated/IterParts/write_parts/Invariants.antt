use Rattle.bcder.specs.calls.Iterated.{RunsMean}
use Rattle.bcder.proofs.Iterating.{Running}
use Rattle.bcder.proofs.encode.values.iterated.IterParts.write_parts.Given as goal

abbrev pub invariant-loop-item : goal.invariant-loop-item
invariant-loop-item g l =
    let M = λ (v : g.row.T-Item.Denot). g.T.Item.Values.means v l.mode in
    Running g.T.IntoIter.Iterator.next_gives g.T.Item.Values.can_encode g.T.Item.Values.means l.mode
    (RunsMean g.T.Clone.is_clone g.T.IntoIterator.into_iter_gives g.T.IntoIter.Iterator.next_gives M l.self.value)
    l.item-iterator (g.W.Write.contents l.initial.target) (g.W.Write.contents l.target)
