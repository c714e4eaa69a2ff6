use Rattle.std.proofs.Common.{drop}
use Rattle.bcder.specs.calls.Meaning.{EachOf}
use Rattle.bcder.specs.calls.Iterated.{ItemMeans}
use Rattle.bcder.proofs.Joining.{WrittenSoFar}
use Rattle.bcder.proofs.encode.values.mapped.MappedParts.write_parts.Given as goal

abbrev pub invariant-loop-item : goal.invariant-loop-item
invariant-loop-item g l =
    let M = ItemMeans g.F.Fn l.self.f.now g.V.Values.means l.mode in
    WrittenSoFar (EachOf M l.item-items) (EachOf M (drop l.item-index l.item-items)) (g.W.Write.contents l.initial.target) (g.W.Write.contents l.target)
