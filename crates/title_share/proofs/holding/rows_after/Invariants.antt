-- The rows so far, and those still to come, are the walk.
use Rattle.std.proofs.Common.{◌≡◌, ◌++◌, false, drop}
use Rattle.title_share.proofs.MoveLaws.{walk}
use Rattle.title_share.proofs.holding.rows_after.Given as goal

abbrev pub invariant-loop-row : goal.invariant-loop-row
invariant-loop-row l = l.after.items ++ walk l.«from» l.to l.units l.given (drop l.row-index l.rows)
    ≡ walk l.«from» l.to l.units false l.rows
