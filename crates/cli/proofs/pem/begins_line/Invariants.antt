-- What was passed is blank.
use Rattle.std.specs.Prelude.{◌≡◌, length, reverse}
use Rattle.cli.specs.Pem.{starts_line}
use Rattle.cli.proofs.pem.begins_line.Given as goal

abbrev pub invariant-loop-rest : goal.invariant-loop-rest
invariant-loop-rest l = starts_line (reverse l.before) ≡ starts_line (reverse l.rest)

abbrev pub decreases-loop-rest : goal.decreases-loop-rest
decreases-loop-rest l = length l.rest
