use Rattle.std.proofs.Common.{length}
use Rattle.title_tree_store.proofs.refusals.Search.+square_trees.Given as goal

abbrev pub decreases-square_trees : goal.decreases-square_trees
decreases-square_trees l = length l.within
