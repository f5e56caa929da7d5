use Rattle.std.proofs.Common.{length}
use Rattle.title_tree_store.proofs.ground.+uniform_of.Given as goal

abbrev pub decreases-uniform_of : goal.decreases-uniform_of
decreases-uniform_of l = length l.trees.now
