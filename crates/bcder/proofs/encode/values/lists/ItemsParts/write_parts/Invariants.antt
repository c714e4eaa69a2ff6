use Rattle.std.proofs.Common.{drop}
use Rattle.bcder.specs.calls.Meaning.{EachOf}
use Rattle.bcder.specs.calls.Noted.{ReadsEach}
use Rattle.bcder.proofs.Joining.{WrittenSoFar}
use Rattle.bcder.proofs.Noting.{ReadSoFar}
use Rattle.bcder.proofs.encode.values.lists.ItemsParts.write_parts.Given as goal

abbrev pub invariant-loop-item : goal.invariant-loop-item
invariant-loop-item g l = WrittenSoFar (EachOf (λ v. g.V.Values.means v l.mode) l.item-items)
    (EachOf (λ v. g.V.Values.means v l.mode) (drop l.item-index l.item-items)) (g.W.Write.contents l.initial.target) (g.W.Write.contents l.target)
    × ReadSoFar (ReadsEach (λ v. g.V.Values.reads v l.mode) l.item-items)
    (ReadsEach (λ v. g.V.Values.reads v l.mode) (drop l.item-index l.item-items)) l.initial.sizes.sizes.now l.sizes.sizes.now
