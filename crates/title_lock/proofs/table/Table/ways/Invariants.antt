-- The least in the way so far.
use Rattle.std.proofs.Common.{None, length}
use Rattle.title_lock.{specs.{Overlaps.{is_post}, Tables.{on_all, table_mode}, Walks.{walk, walk_left}}, proofs.DoneLaws.{IsSoFar}}
use Rattle.title_lock.proofs.table.Table.ways.Given as goal

abbrev pub invariant-loop-climb : goal.invariant-loop-climb
invariant-loop-climb l =
    IsSoFar (is_post l.access) (λ f n. table_mode (on_all l.self) f n) l.examiner (walk None l.cover) (walk_left l.walk) l.way

abbrev pub decreases-loop-climb : goal.decreases-loop-climb
decreases-loop-climb l = length (walk_left l.walk)
