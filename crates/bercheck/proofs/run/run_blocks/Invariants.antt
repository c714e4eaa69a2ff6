-- What was written for the blocks that were passed, and what they say of all.
use Rattle.std.specs.Prelude.{◌≡◌, length}
use Rattle.cli.specs.declared.pem.Block.{Block}
use Rattle.cli.specs.Pem.{IsAmong}
use Rattle.cli.specs.declared.status.Status.TheVariants.{Done, Refused}
use Rattle.bercheck.specs.Runs.{AreBlocksRight, HasBrokenBlock}
use Rattle.bercheck.specs.Tells.{Goes}
use Rattle.bercheck.proofs.run.run_blocks.Given as goal

abbrev pub invariant-loop-block : goal.invariant-loop-block
invariant-loop-block g l = record {
  goes : Goes (g.W.Write.contents l.initial.out) (g.W.Write.contents l.out) (g.E.Write.contents l.initial.err) (g.E.Write.contents l.err) l.status;
  right : l.status ≡ Done → AreBlocksRight l.request l.rest → AreBlocksRight l.request l.octets;
  among : (b : Block) → IsAmong b l.rest → IsAmong b l.octets;
  broken : l.status ≡ Refused → HasBrokenBlock l.request l.octets;
}

abbrev pub decreases-loop-block : goal.decreases-loop-block
decreases-loop-block g l = length l.rest
