-- The recursion goes from the newest row to the oldest.
use Rattle.std.proofs.Common.{length}
use Rattle.title_lock.proofs.row_locks.+counted.Given as goal

abbrev pub decreases-counted : goal.decreases-counted
decreases-counted l = length l.rows.now
