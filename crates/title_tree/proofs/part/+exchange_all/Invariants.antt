use Rattle.std.proofs.Common.{length}
use Rattle.title_tree.proofs.part.+exchange_all.Given as goal

abbrev pub decreases-exchange_all : goal.decreases-exchange_all
decreases-exchange_all l = length l.parts.now
