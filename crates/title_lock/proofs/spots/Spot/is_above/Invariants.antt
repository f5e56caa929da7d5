-- The number is that of a node on the way up from the other.
use Rattle.title_lock.proofs.NumberLaws.{IsOnWay}
use Rattle.title_lock.proofs.spots.Spot.is_above.Given as goal

abbrev pub invariant-loop-number : goal.invariant-loop-number
invariant-loop-number l = IsOnWay l.self.is.node l.other.is.node l.number

abbrev pub decreases-loop-number : goal.decreases-loop-number
decreases-loop-number l = l.number
