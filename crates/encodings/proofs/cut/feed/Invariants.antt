use Rattle.std.proofs.Common.{length}
use Rattle.encodings.specs.Pieces.{all_made}
use Rattle.encodings.proofs.Cutting.{InFeed}
use Rattle.encodings.proofs.cut.feed.Given as goal

abbrev pub invariant-loop-rest : goal.invariant-loop-rest
invariant-loop-rest l = InFeed l.fn.room l.fn.octets l.room l.rest (all_made l.fn.out.items) (all_made l.out.items)

abbrev pub decreases-loop-rest : goal.decreases-loop-rest
decreases-loop-rest l = length l.rest
