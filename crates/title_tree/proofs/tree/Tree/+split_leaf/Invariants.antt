use Rattle.std.proofs.Common.{length}
use Rattle.title_tree.proofs.tree.Tree.+split_leaf.Given as goal

abbrev pub decreases-split_leaf : goal.decreases-split_leaf
decreases-split_leaf l = length l.path
