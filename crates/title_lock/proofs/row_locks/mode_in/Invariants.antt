-- The loop over the rows.
use Rattle.std.proofs.Common.{◌≡◌, reverse, take}
use Rattle.title_land.specs.Depth.{depth}
use Rattle.title_lock.specs.Asking.{mode_at}
use Rattle.title_lock.proofs.row_locks.mode_in.Given as goal

-- the bound of what the rows so far ask for
abbrev pub invariant-loop-row : goal.invariant-loop-row
invariant-loop-row l = l.mode ≡ mode_at depth (reverse (take l.row-index l.rows)) l.examiner l.node
