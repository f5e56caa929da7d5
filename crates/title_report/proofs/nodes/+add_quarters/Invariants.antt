-- A square's outer squares have fewer quarters.
use Rattle.std.proofs.Common.{length}
use Rattle.title_report.proofs.nodes.+add_quarters.Given as goal

abbrev pub decreases-add_quarters : goal.decreases-add_quarters
decreases-add_quarters l = length l.within
