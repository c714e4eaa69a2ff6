use Rattle.std.proofs.Common.{◌+◌, ◌*◌}
use Rattle.types.proofs.trees.+tree.Given as goal

abbrev pub decreases-tree_of : goal.decreases-tree_of
decreases-tree_of l = l.levels * 2

abbrev pub decreases-trees_of : goal.decreases-trees_of
decreases-trees_of l = l.levels * 2 + 1
