use Rattle.encodings.proofs.Identifiers.{InDigits}
use Rattle.encodings.proofs.identifier.append_decimal.Given as goal

abbrev pub invariant-loop-rest : goal.invariant-loop-rest
invariant-loop-rest l = InDigits l.fn.number l.rest l.start l.digits

abbrev pub decreases-loop-rest : goal.decreases-loop-rest
decreases-loop-rest l = l.start
