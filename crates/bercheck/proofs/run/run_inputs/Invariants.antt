-- What was written for the files that were passed, and what they say of all.
use Rattle.std.specs.Prelude.{◌≡◌, length}
use Rattle.cli.specs.declared.status.Status.TheVariants.{Done, Refused}
use Rattle.bercheck.specs.Runs.{AreFilesRight, HasBrokenFile}
use Rattle.bercheck.specs.Tells.{Goes}
use Rattle.bercheck.proofs.run.run_inputs.Given as goal

abbrev pub invariant-loop-rest : goal.invariant-loop-rest
invariant-loop-rest g l = record {
  goes : Goes (g.W.Write.contents l.initial.out) (g.W.Write.contents l.out) (g.E.Write.contents l.initial.err) (g.E.Write.contents l.err) l.status;
  right : l.status ≡ Done → AreFilesRight l.request l.rest → AreFilesRight l.request l.inputs;
  among : HasBrokenFile l.request l.rest → HasBrokenFile l.request l.inputs;
  broken : l.status ≡ Refused → HasBrokenFile l.request l.inputs;
}

abbrev pub decreases-loop-rest : goal.decreases-loop-rest
decreases-loop-rest g l = length l.rest
