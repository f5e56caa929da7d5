-- There is room at what has come, and at what lies above it or is still to come; nobody's mode changes, and holders stay used.
use Rattle.std.proofs.Common.{◌≡◌, ℕ, None, length}
use Rattle.title_land.specs.declared.node.Node.{Node}
use Rattle.title_lock.specs.{Tables.{on_all, table_mode, table_room, IdleMore, AllUsed}, Walks.{asks_in, walk, walk_left}}
use Rattle.title_lock.proofs.Climbing.{IsClimbing}
use Rattle.title_lock.proofs.table.Table.make_room_all.Given as goal

abbrev pub invariant-loop-climb : goal.invariant-loop-climb
invariant-loop-climb l = record {
  climbing : IsClimbing (λ n. table_room (on_all l.self) l.examiner n) (walk None l.cover) l.walk.climb l.walk.last (walk_left l.walk);
  modes : (f : ℕ) (n : Node) → table_mode (on_all l.self) f n ≡ table_mode (on_all l.fn.self) f n;
  idle : IdleMore (on_all l.fn.self) (on_all l.self) l.examiner (asks_in (walk None l.cover));
  used : AllUsed (on_all l.fn.self) → AllUsed (on_all l.self);
}

abbrev pub decreases-loop-climb : goal.decreases-loop-climb
decreases-loop-climb l = length (walk_left l.walk)
