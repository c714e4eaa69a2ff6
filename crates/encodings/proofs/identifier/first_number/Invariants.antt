use Rattle.std.proofs.Common.{length}
use Rattle.encodings.proofs.Identifiers.{InNumber}
use Rattle.encodings.proofs.identifier.first_number.Given as goal

abbrev pub invariant-loop-rest : goal.invariant-loop-rest
invariant-loop-rest l = InNumber l.fn.octets l.rest l.high

abbrev pub decreases-loop-rest : goal.decreases-loop-rest
decreases-loop-rest l = length l.rest
