-- The loop over the list: the entries so far are spread, the newest first.
use Rattle.std.proofs.Common.{◌≡◌, reverse, take}
use Rattle.title_lock.proofs.node_locks.spread_of.Given as goal

abbrev pub invariant-loop-row : goal.invariant-loop-row
invariant-loop-row l = l.spread.entries ≡ reverse (take l.row-index l.rows)
