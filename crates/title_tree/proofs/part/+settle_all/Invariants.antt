use Rattle.std.proofs.Common.{length}
use Rattle.title_tree.proofs.part.+settle_all.Given as goal

abbrev pub decreases-settle_all : goal.decreases-settle_all
decreases-settle_all l = length l.parts.now
