-- A square's outer squares have fewer quarters.
use Rattle.std.proofs.Common.{length}
use Rattle.title_land.proofs.node.Within.+square.Given as goal

abbrev pub decreases-square : goal.decreases-square
decreases-square l = length l.self
