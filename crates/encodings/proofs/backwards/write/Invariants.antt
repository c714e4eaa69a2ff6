use Rattle.std.proofs.Common.{length}
use Rattle.encodings.proofs.Converting.{InWrite}
use Rattle.encodings.proofs.backwards.write.Given as goal

abbrev pub invariant-loop-rest : goal.invariant-loop-rest
invariant-loop-rest l = InWrite l.fn.mode l.fn.items l.rest l.fn.buffer l.buffer l.at l.marks.items

abbrev pub decreases-loop-rest : goal.decreases-loop-rest
decreases-loop-rest l = length l.rest
