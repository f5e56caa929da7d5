-- The table tells the modes of the entries.
use Rattle.std.proofs.Common.{sym}
use Rattle.title_land.specs.Depth.{depth}
use Rattle.title_lock.specs.{Asking.{mode_at}, Holders.{count_in}, Locks.{granted}, Tables.{on_all, table_mode}}
use Rattle.title_lock.proofs.{CountLaws.{count_same}, KeptLaws.{kept_table}}
use Rattle.title_lock.proofs.spread_locks.SpreadLocks.counts.Goals as goal

pub returns : goal.returns
returns c =
    let i = c.self.inside in
    let n = c.args.node.now in
    let are = kept_table depth i.prepared i.book i.table c.self.invariant.kept in
    record {
      counts = rw (← c.self.view_is) (λ m. count_same (λ e. table_mode (on_all i.table) e n)
          (λ e. mode_at depth (granted i.prepared i.book) e n) m (count_in c.counts.result m) (λ e. sym (are.modes e n))
          (c.counts.ensures.counts m));
    }
