use Rattle.std.proofs.Common.{length}
use Rattle.title_tree.proofs.part.+tidy_all.Given as goal

abbrev pub decreases-tidy_all : goal.decreases-tidy_all
decreases-tidy_all l = length l.paths.now
