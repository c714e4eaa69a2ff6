use Rattle.std.specs.Prelude.{length}
use Rattle.encodings.specs.Open.{open_values}
use Rattle.rules.proofs.Going.{InGivingUp}
use Rattle.rules.proofs.walk.give_up.Given as goal

abbrev pub invariant-loop-innermost : goal.invariant-loop-innermost
invariant-loop-innermost l = InGivingUp (open_values l.initial.opened.items) l.rest l.at (open_values l.opened.items)

abbrev pub decreases-loop-innermost : goal.decreases-loop-innermost
decreases-loop-innermost l = length l.opened.items
