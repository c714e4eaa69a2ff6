use Rattle.std.proofs.Common.{length}
use Rattle.encodings.proofs.Strings.{InNested}
use Rattle.encodings.proofs.string.join_nested.Given as goal

abbrev pub invariant-loop-rest : goal.invariant-loop-rest
invariant-loop-rest l = InNested l.fn.octets l.rest l.fn.buffer l.buffer l.at

abbrev pub decreases-loop-rest : goal.decreases-loop-rest
decreases-loop-rest l = length l.rest
