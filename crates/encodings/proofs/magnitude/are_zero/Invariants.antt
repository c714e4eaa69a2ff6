use Rattle.std.proofs.Common.{◌≡◌, length}
use Rattle.encodings.specs.Negated.{all_zero}
use Rattle.encodings.proofs.magnitude.are_zero.Given as goal

abbrev pub invariant-loop-rest : goal.invariant-loop-rest
invariant-loop-rest l = all_zero l.fn.octets ≡ all_zero l.rest

abbrev pub decreases-loop-rest : goal.decreases-loop-rest
decreases-loop-rest l = length l.rest
