use Rattle.std.specs.Prelude.{◌≡◌, length}
use Rattle.rules.specs.Reals.{past}
use Rattle.rules.proofs.real.past.Given as goal

abbrev pub invariant-loop-rest : goal.invariant-loop-rest
invariant-loop-rest l = past l.fn.set l.fn.octets ≡ past l.fn.set l.rest

abbrev pub decreases-loop-rest : goal.decreases-loop-rest
decreases-loop-rest l = length l.rest
