use Rattle.std.proofs.Common.{arith}
use Rattle.bcder.proofs.Markers.{ends_by_two}
use Rattle.bcder.proofs.decode.content.marker.len_before_marker.Goals as goal

pub returns-clause-ends : goal.returns-clause-ends
returns-clause-ends c =
    (ends_by_two c.args.mode c.args.octets.now c.requires.0 c.requires.1
    (λ n a b e. c.loop-size.invariant n a (let d = c.loop-size-test.false in omega arith) e)).ends
