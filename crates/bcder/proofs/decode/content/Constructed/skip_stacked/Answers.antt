use Rattle.bcder.specs.laws.Moved.{untouched_is_moved}
use Rattle.bcder.proofs.SameBorrow.{moves_constructed_name}
use Rattle.bcder.proofs.decode.content.Constructed.skip_stacked.Goals as goal

pub returns-clause-moves : goal.returns-clause-moves
returns-clause-moves g c = c.skip_opt.ensures.moves _ (untouched_is_moved _)

pub returns-clause-name : goal.returns-clause-name
returns-clause-name g c = moves_constructed_name g.S.Source.stream c.args.self.now c.skip_opt.new.self (c.skip_opt.ensures.moves _ (untouched_is_moved _))
