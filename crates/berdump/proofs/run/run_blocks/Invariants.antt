-- What was written of the blocks that were passed.
use Rattle.std.specs.Prelude.{◌≡◌, ◌≢◌, ℕ, List, Option, length, true}
use Rattle.std.specs.Io.KnownBytes.{Keeps}
use Rattle.cli.specs.declared.status.Status.TheVariants.{Done, Failed}
use Rattle.berdump.specs.Runs.{IsBound, BlocksListed}
use Rattle.berdump.proofs.run.run_blocks.Given as goal

abbrev pub invariant-loop-block : goal.invariant-loop-block
invariant-loop-block g l =
    IsBound l.request.scope l.request.mode (g.W.Write.contents l.initial.out) (g.W.Write.contents l.out) l.status × (l.status ≢ Failed)
    × (l.status ≡ Done → Keeps (g.E.Write.contents l.initial.err) (g.E.Write.contents l.err))
    × (l.status ≡ Done → (end : Option (List ℕ)) → BlocksListed l.request l.is_first l.rest (g.W.Write.contents l.out) end
    → BlocksListed l.request true l.octets (g.W.Write.contents l.initial.out) end)

abbrev pub decreases-loop-block : goal.decreases-loop-block
decreases-loop-block g l = length l.rest
