-- Nothing is held of what has come, nor of what lies above it but is still to come; what isn't asked for stays.
use Rattle.std.{proofs.Common.{◌≡◌, ℕ, false, None, not, ◌&&◌, is_some, eqb, length}, specs.List.{list_any}}
use Rattle.title_land.specs.declared.node.Node.{Node}
use Rattle.title_lock.specs.{Tables.{on_all, table_mode, is_asked, NoMoreIdle, AllUsed}, Walks.{walk, walk_left}}
use Rattle.title_lock.proofs.Climbing.{IsClimbing}
use Rattle.title_lock.proofs.table.Table.take_out_all.Given as goal

abbrev pub invariant-loop-climb : goal.invariant-loop-climb
invariant-loop-climb l = record {
  climbing : IsClimbing (λ n. list_any (is_asked n) l.cover && not (is_some (table_mode (on_all l.self) l.examiner n)))
      (walk None l.cover) l.walk.climb l.walk.last (walk_left l.walk);
  others : (f : ℕ) (n : Node) → (eqb f l.examiner && list_any (is_asked n) l.cover) ≡ false
      → table_mode (on_all l.self) f n ≡ table_mode (on_all l.fn.self) f n;
  idle : NoMoreIdle (on_all l.fn.self) (on_all l.self);
  used : AllUsed (on_all l.fn.self) → AllUsed (on_all l.self);
}

abbrev pub decreases-loop-climb : goal.decreases-loop-climb
decreases-loop-climb l = length (walk_left l.walk)
