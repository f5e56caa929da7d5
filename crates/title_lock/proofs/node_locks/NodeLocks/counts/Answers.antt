-- The numbers in their order are the same.
use Rattle.std.proofs.Common.{ℕ, sym, subst}
use Rattle.title_land.specs.Depth.{depth}
use Rattle.title_lock.specs.{Asking.{mode_at}, Counts.{IsCount}}
use Rattle.title_lock.proofs.node_locks.NodeLocks.counts.Goals as goal

pub returns : goal.returns
returns c = record {
  counts = λ m. subst (λ (k : ℕ). IsCount (λ e. mode_at depth c.args.self.now.entries e c.args.node.now) m k)
      (sym (c.in_order.ensures.order m)) (c.counts_at.ensures.counts m);
}
