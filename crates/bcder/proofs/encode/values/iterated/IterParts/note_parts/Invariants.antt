use Rattle.bcder.proofs.Iterating.{SumSeen}
use Rattle.bcder.proofs.encode.values.iterated.IterParts.note_parts.Given as goal

abbrev pub invariant-loop-item : goal.invariant-loop-item
invariant-loop-item g l = SumSeen (λ v. g.T.Item.Values.means v l.mode) l.yielded l.sum
