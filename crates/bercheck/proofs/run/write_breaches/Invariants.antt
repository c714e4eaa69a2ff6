-- What was written for the breaches that were passed.
use Rattle.std.specs.Prelude.{◌≡◌, ◌≢◌, ◌≤◌, [], length}
use Rattle.cli.specs.declared.status.Status.TheVariants.{Done}
use Rattle.bercheck.specs.Tells.{Goes}
use Rattle.bercheck.proofs.run.write_breaches.Given as goal

abbrev pub invariant-loop-rest : goal.invariant-loop-rest
invariant-loop-rest g l =
    Goes (g.W.Write.contents l.initial.out) (g.W.Write.contents l.out) (g.E.Write.contents l.initial.err) (g.E.Write.contents l.err) l.status
    × (length l.rest ≤ length l.found) × (l.status ≡ Done → l.rest ≡ l.found) × (l.status ≢ Done → l.found ≢ [])

abbrev pub decreases-loop-rest : goal.decreases-loop-rest
decreases-loop-rest g l = length l.rest
