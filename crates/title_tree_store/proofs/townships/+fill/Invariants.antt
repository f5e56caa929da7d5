use Rattle.std.proofs.Common.{length}
use Rattle.title_tree_store.proofs.townships.+fill.Given as goal

abbrev pub decreases-fill : goal.decreases-fill
decreases-fill l = length l.townships.now
