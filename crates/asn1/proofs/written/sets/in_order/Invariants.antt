use Rattle.std.proofs.Common.{take}
use Rattle.asn1.proofs.SetsSorted.{KeptSoFar}
use Rattle.asn1.proofs.written.sets.in_order.Given as goal

abbrev pub invariant-loop-item : goal.invariant-loop-item
invariant-loop-item g l = KeptSoFar l.mode (λ (v : g.row.T.Denot). g.T.Encode.writes g.T.Type.TAG v l.mode) (take l.item-index l.items) l.pieces.items
