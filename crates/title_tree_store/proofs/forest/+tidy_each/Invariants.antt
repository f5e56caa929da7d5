use Rattle.std.proofs.Common.{length}
use Rattle.title_tree_store.proofs.forest.+tidy_each.Given as goal

abbrev pub decreases-tidy_each : goal.decreases-tidy_each
decreases-tidy_each l = length l.grounds.now
