-- The levels below are fewer at each call.
use Rattle.title_land.proofs.cover.+filled_square.Given as goal

abbrev pub decreases-filled_square : goal.decreases-filled_square
decreases-filled_square l = l.levels

abbrev pub invariant-loop-which : goal.invariant-loop-which
invariant-loop-which l = Unit {0}
