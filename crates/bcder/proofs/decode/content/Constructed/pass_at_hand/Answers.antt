use Rattle.bcder.specs.laws.Moved.{untouched_is_moved}
use Rattle.bcder.proofs.decode.content.Constructed.pass_at_hand.Goals as goal

pub returns-in_default-clause-moves : goal.returns-in_default-clause-moves
returns-in_default-clause-moves g c = untouched_is_moved _

pub returns-then-owed-eq0-clause-moves : goal.returns-then-owed-eq0-clause-moves
returns-then-owed-eq0-clause-moves g c = untouched_is_moved _
