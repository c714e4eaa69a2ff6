use Rattle.bcder.specs.laws.Moved.{moved_carries}
use Rattle.bcder.proofs.decode.content.Constructed.skip_opt.Goals as goal

pub returns-clause-moves : goal.returns-clause-moves
returns-clause-moves g c = moved_carries _ _ c.skip_next.ensures.moves
