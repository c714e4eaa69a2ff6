use Rattle.std.specs.Prelude.{IsTrue}
use Rattle.asn1.proofs.ToldApart.{AreFirst}
use Rattle.asn1.proofs.clear.lists.all_clear.Given as goal

abbrev pub invariant-loop-item : goal.invariant-loop-item
invariant-loop-item g l = IsTrue g.T.Clear.distinct → AreFirst (λ v. g.T.Encode.is_clear v l.mode) l.items l.item-index
