use Rattle.std.proofs.Common.{length}
use Rattle.encodings.specs.Pieces.{all_made}
use Rattle.encodings.proofs.Cutting.{InCount}
use Rattle.encodings.proofs.cut.are_long.Given as goal

abbrev pub invariant-loop-rest : goal.invariant-loop-rest
invariant-loop-rest l = InCount (all_made l.fn.items) (all_made l.rest) l.count

abbrev pub decreases-loop-rest : goal.decreases-loop-rest
decreases-loop-rest l = length l.rest
