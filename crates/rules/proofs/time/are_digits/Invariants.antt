use Rattle.rules.specs.Times.{AreDigits}
use Rattle.rules.proofs.time.are_digits.Given as goal

abbrev pub invariant-loop-place : goal.invariant-loop-place
invariant-loop-place l = AreDigits l.octets l.from l.place
