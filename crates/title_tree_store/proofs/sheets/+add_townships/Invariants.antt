use Rattle.std.proofs.Common.{length}
use Rattle.title_tree_store.proofs.sheets.+add_townships.Given as goal

abbrev pub decreases-add_townships : goal.decreases-add_townships
decreases-add_townships l = length l.grounds.now
