use Rattle.std.proofs.Common.{drop}
use Rattle.bcder.specs.calls.Meaning.{EachOf}
use Rattle.bcder.proofs.Lemmas.{WrittenSoFar}
use Rattle.asn1.proofs.written.lists.write_items.Given as goal

abbrev pub invariant-loop-item : goal.invariant-loop-item
invariant-loop-item g l =
    WrittenSoFar (EachOf (λ v. g.T.Encode.writes g.T.Type.TAG v l.mode) l.items)
    (EachOf (λ v. g.T.Encode.writes g.T.Type.TAG v l.mode) (drop l.item-index l.items)) (g.W.Write.contents l.initial.target) (g.W.Write.contents l.target)
