use Rattle.bcder.specs.x690.Tree.{no_trees}
use Rattle.bcder.proofs.captured.Captured.empty.Goals as goal

pub invariant_of-result : goal.invariant_of-result
invariant_of-result c = record { values = no_trees; encode = c.new.ensures }
