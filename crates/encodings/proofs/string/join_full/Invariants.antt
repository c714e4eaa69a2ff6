use Rattle.std.proofs.Common.{length}
use Rattle.encodings.proofs.Strings.{InFull}
use Rattle.encodings.proofs.string.join_full.Given as goal

abbrev pub invariant-loop-rest : goal.invariant-loop-rest
invariant-loop-rest l = InFull l.fn.octets l.rest l.fn.buffer l.buffer l.at l.count l.full

abbrev pub decreases-loop-rest : goal.decreases-loop-rest
decreases-loop-rest l = length l.rest
