-- A square's outer squares have fewer quarters.
use Rattle.std.proofs.Common.{length}
use Rattle.title_land.proofs.node.+write_quarters.Given as goal

abbrev pub decreases-write_quarters : goal.decreases-write_quarters
decreases-write_quarters g l = length l.within
