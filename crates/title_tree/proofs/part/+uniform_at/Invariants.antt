use Rattle.std.proofs.Common.{length}
use Rattle.title_tree.proofs.part.+uniform_at.Given as goal

abbrev pub decreases-uniform_at : goal.decreases-uniform_at
decreases-uniform_at l = length l.paths.now
