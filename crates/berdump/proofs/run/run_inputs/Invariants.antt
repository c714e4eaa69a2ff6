-- What was written of the files that were passed.
use Rattle.std.specs.Prelude.{◌≡◌, ◌≢◌, ◌==◌, ℕ, List, Option, length, drop, true}
use Rattle.std.specs.Io.KnownBytes.{Keeps}
use Rattle.cli.specs.declared.status.Status.TheVariants.{Done, Failed}
use Rattle.berdump.specs.Runs.{IsBound, FilesListed}
use Rattle.berdump.proofs.run.run_inputs.Given as goal

abbrev pub invariant-loop-input : goal.invariant-loop-input
invariant-loop-input g l =
    IsBound l.request.scope l.request.mode (g.W.Write.contents l.initial.out) (g.W.Write.contents l.out) l.status × (l.status ≢ Failed)
    × (l.status ≡ Done → Keeps (g.E.Write.contents l.initial.err) (g.E.Write.contents l.err))
    × (l.status ≡ Done → (end : Option (List ℕ))
    → FilesListed l.request (length l.inputs == 1) l.is_first (drop l.input-index l.inputs) (g.W.Write.contents l.out) end
    → FilesListed l.request (length l.inputs == 1) true l.inputs (g.W.Write.contents l.initial.out) end)
