-- The recursion goes along the cover.
use Rattle.std.proofs.Common.{length}
use Rattle.title_lock.proofs.row_locks.+asked.Given as goal

abbrev pub decreases-asked : goal.decreases-asked
decreases-asked l = length l.cover.now
