-- Enough is held of what has come, and of what lies above it or is still to come; what is left done is the whole done.
use Rattle.std.{proofs.Common.{◌≡◌, ℕ, None, cond, eqb, length}, specs.List.{list_any}}
use Rattle.title_land.specs.declared.node.Node.{Node}
use Rattle.title_lock.specs.{Modes.{bound, is_enough}, Overlaps.{is_post}, Asking.{above_mode}}
use Rattle.title_lock.specs.Tables.{HeldAt, on_all, table_mode, is_asked, HasRoom, IdleLess, AllUsed}
use Rattle.title_lock.{specs.Walks.{asked_in, asks_in, walk, walk_left}, proofs.Climbing.{IsClimbing}}
use Rattle.title_lock.proofs.table.Table.raise_all.Given as goal

abbrev pub invariant-loop-climb : goal.invariant-loop-climb
invariant-loop-climb l = record {
  climbing : IsClimbing (λ n. is_enough (table_mode (on_all l.self) l.examiner n) (above_mode (is_post l.access))) (walk None l.cover)
      l.walk.climb l.walk.last (walk_left l.walk);
  modes : (f : ℕ) (n : Node) → bound (table_mode (on_all l.self) f n)
      (cond (eqb f l.examiner) (asked_in (is_post l.access) (walk_left l.walk) n) None)
      ≡ bound (table_mode (on_all l.fn.self) f n) (cond (eqb f l.examiner) (asked_in (is_post l.access) (walk None l.cover) n) None);
  room : HasRoom (on_all l.self) l.examiner (λ n. list_any (is_asked n) l.cover);
  idle : (v : HeldAt) → IdleLess (on_all l.self) v l.examiner (asks_in (walk_left l.walk))
      → IdleLess (on_all l.fn.self) v l.examiner (asks_in (walk None l.cover));
  used : AllUsed (on_all l.fn.self) → AllUsed (on_all l.self);
}

abbrev pub decreases-loop-climb : goal.decreases-loop-climb
decreases-loop-climb l = length (walk_left l.walk)
