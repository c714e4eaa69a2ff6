-- What was passed has none.
use Rattle.std.specs.Prelude.{◌≡◌, length}
use Rattle.cli.specs.Shown.{has_control}
use Rattle.cli.proofs.shown.is_shown.Given as goal

abbrev pub invariant-loop-rest : goal.invariant-loop-rest
invariant-loop-rest l = has_control l.text ≡ has_control l.rest

abbrev pub decreases-loop-rest : goal.decreases-loop-rest
decreases-loop-rest l = length l.rest
