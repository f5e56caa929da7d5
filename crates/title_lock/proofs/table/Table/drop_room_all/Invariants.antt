-- What is left of the rooms taken back is all taken back; no mode changes, and holders stay used.
use Rattle.std.proofs.Common.{◌≡◌, ℕ, None, length}
use Rattle.title_land.specs.declared.node.Node.{Node}
use Rattle.title_lock.specs.{Tables.{HeldAt, on_all, table_mode, IdleLess, AllUsed}, Walks.{asks_in, walk, walk_left}}
use Rattle.title_lock.proofs.table.Table.drop_room_all.Given as goal

abbrev pub invariant-loop-climb : goal.invariant-loop-climb
invariant-loop-climb l = record {
  modes : (f : ℕ) (n : Node) → table_mode (on_all l.self) f n ≡ table_mode (on_all l.fn.self) f n;
  idle : (v : HeldAt) → IdleLess (on_all l.self) v l.examiner (asks_in (walk_left l.walk))
      → IdleLess (on_all l.fn.self) v l.examiner (asks_in (walk None l.cover));
  used : AllUsed (on_all l.fn.self) → AllUsed (on_all l.self);
}

abbrev pub decreases-loop-climb : goal.decreases-loop-climb
decreases-loop-climb l = length (walk_left l.walk)
