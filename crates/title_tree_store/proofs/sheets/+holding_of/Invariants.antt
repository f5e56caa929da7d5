use Rattle.std.proofs.Common.{length}
use Rattle.title_tree_store.proofs.sheets.+holding_of.Given as goal

abbrev pub decreases-holding_of : goal.decreases-holding_of
decreases-holding_of l = length l.grounds.now
