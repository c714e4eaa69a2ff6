use Rattle.std.proofs.Common.{drop}
use Rattle.bcder.specs.calls.Meaning.{EachOf}
use Rattle.bcder.specs.calls.Noted.{ReadsEach}
use Rattle.bcder.proofs.Joining.{SumSoFar}
use Rattle.bcder.proofs.Noting.{NotedSoFar}
use Rattle.bcder.proofs.encode.values.lists.ItemsParts.note_parts.Given as goal

abbrev pub invariant-loop-item : goal.invariant-loop-item
invariant-loop-item g l =
    SumSoFar (EachOf (λ v. g.V.Values.means v l.mode) l.item-items) (EachOf (λ v. g.V.Values.means v l.mode) (drop l.item-index l.item-items)) l.sum
    × NotedSoFar (ReadsEach (λ v. g.V.Values.reads v l.mode) l.item-items)
    (ReadsEach (λ v. g.V.Values.reads v l.mode) (drop l.item-index l.item-items)) l.initial.sizes l.sizes
