-- The quarters left are fewer at each call.
use Rattle.std.proofs.Common.{length}
use Rattle.title_land.proofs.node.Within.+named.Given as goal

abbrev pub decreases-named : goal.decreases-named
decreases-named l = length l.quarters.now
