-- The others' entries stay, and what is given back with those that are left is what is given back in all;
-- nobody more is idle, and where the examiner holds nothing of what is left it holds nothing above.
use Rattle.std.{proofs.Common.{◌≡◌, ℕ, None, ◌&&◌, cond, eqb, length}, specs.List.{list_any}}
use Rattle.title_land.specs.{Depth.{depth}, declared.node.Node.{Node}}
use Rattle.title_lock.specs.{Overlaps.{without}, Tables.{table_mode, is_asked_by, NoMoreIdle, AllUsed, on_all}}
use Rattle.title_lock.proofs.GiveBack.{AreGone}
use Rattle.title_lock.proofs.spread_locks.give_back_all.Given as goal

abbrev pub invariant-loop-entry : goal.invariant-loop-entry
invariant-loop-entry l = record {
  others : without l.examiner l.book ≡ without l.examiner l.initial.book;
  modes : (f : ℕ) (n : Node) → cond (eqb f l.examiner && list_any (is_asked_by depth l.examiner n) l.book) None
      (table_mode (on_all l.table) f n)
      ≡ cond (eqb f l.examiner && list_any (is_asked_by depth l.examiner n) l.initial.book) None (table_mode (on_all l.initial.table) f n);
  idle : NoMoreIdle (on_all l.initial.table) (on_all l.table);
  gone : AreGone depth l.examiner l.book (on_all l.table);
  used : AllUsed (on_all l.initial.table) → AllUsed (on_all l.table);
}

abbrev pub decreases-loop-entry : goal.decreases-loop-entry
decreases-loop-entry l = length l.book
