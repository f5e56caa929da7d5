use Rattle.std.proofs.Common.{length}
use Rattle.title_tree.proofs.part.+add_changed.Given as goal

abbrev pub decreases-add_changed : goal.decreases-add_changed
decreases-add_changed over l = length l.paths.now
