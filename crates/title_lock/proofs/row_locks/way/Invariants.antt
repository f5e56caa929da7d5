-- The loop over the rows.
use Rattle.std.proofs.Common.{reverse, take}
use Rattle.title_lock.specs.Overlaps.{is_post, Stands}
use Rattle.title_lock.proofs.row_locks.way.Given as goal

-- the least in the way among the rows so far
abbrev pub invariant-loop-row : goal.invariant-loop-row
invariant-loop-row l = Stands (reverse (take l.row-index l.rows)) l.examiner l.tract (is_post l.access) l.way
