use Rattle.std.proofs.Common.{drop}
use Rattle.bcder.specs.calls.Meaning.{EachOf}
use Rattle.bcder.specs.calls.Iterated.{ItemMeans}
use Rattle.bcder.proofs.Joining.{SumSoFar}
use Rattle.bcder.proofs.encode.values.mapped.MappedParts.note_parts.Given as goal

abbrev pub invariant-loop-item : goal.invariant-loop-item
invariant-loop-item g l =
    let M = ItemMeans g.F.Fn l.self.f.now g.V.Values.means l.mode in
    SumSoFar (EachOf M l.item-items) (EachOf M (drop l.item-index l.item-items)) l.sum
