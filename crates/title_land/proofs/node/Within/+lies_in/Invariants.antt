-- A square's outer squares have fewer quarters.
use Rattle.std.proofs.Common.{length}
use Rattle.title_land.proofs.node.Within.+lies_in.Given as goal

abbrev pub decreases-lies_in : goal.decreases-lies_in
decreases-lies_in l = length l.self
