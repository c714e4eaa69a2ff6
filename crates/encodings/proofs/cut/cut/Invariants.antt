use Rattle.std.proofs.Common.{length}
use Rattle.encodings.specs.Pieces.{all_made}
use Rattle.encodings.proofs.Cutting.{InCut}
use Rattle.encodings.proofs.cut.cut.Given as goal

abbrev pub invariant-loop-rest : goal.invariant-loop-rest
invariant-loop-rest l = InCut (all_made l.fn.items) (all_made l.rest) l.state (all_made l.out.items)

abbrev pub decreases-loop-rest : goal.decreases-loop-rest
decreases-loop-rest l = length l.rest
