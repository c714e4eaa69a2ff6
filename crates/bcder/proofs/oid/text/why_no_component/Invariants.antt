-- The texts before those that are left are components.
use Rattle.std.proofs.Common.{length}
use Rattle.bcder.specs.steps.Pushed.{texts_of}
use Rattle.bcder.proofs.Spelling.{RefusedWith}
use Rattle.bcder.proofs.oid.text.why_no_component.Given as goal

abbrev pub invariant-loop-rest : goal.invariant-loop-rest
invariant-loop-rest l = RefusedWith (texts_of l.rest) (texts_of l.initial.rest)

abbrev pub decreases-loop-rest : goal.decreases-loop-rest
decreases-loop-rest l = length (texts_of l.rest)
