-- Each of the first spots stands before the next.
use Rattle.std.proofs.Common.{◌<◌, ◌-◌, length}
use Rattle.title_chain.proofs.SpotsInOrder.{FirstAscend}
use Rattle.title_chain.proofs.filing.found.ascend.Given as goal

abbrev pub invariant-loop-i : goal.invariant-loop-i
invariant-loop-i l = (0 < l.i) × FirstAscend l.spots l.i

abbrev pub decreases-loop-i : goal.decreases-loop-i
decreases-loop-i l = length l.spots - l.i
