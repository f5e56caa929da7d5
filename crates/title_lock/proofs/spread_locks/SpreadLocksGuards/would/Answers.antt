-- The least examiner in the way by the table is the least whose entry overlaps.
use Rattle.title_land.specs.Depth.{depth}
use Rattle.title_lock.specs.{Overlaps.{is_post}, Tables.{on_all}, Locks.{granted}}
use Rattle.title_lock.proofs.{MeetLaws.{meet_by_covers}, KeptLaws.{kept_table}, WayLaws.{stands}, RootedLaws.{table_rooted, table_apart}}
use Rattle.title_lock.proofs.spread_locks.SpreadLocksGuards.would.Goals as goal

pub ways-requires : goal.ways-requires
ways-requires c =
    let i = c.self.inside in
    let are = kept_table depth i.prepared i.book i.table c.self.invariant.kept in
    let e = c.args.examiner in
    record {
      rooted = table_rooted depth (granted i.prepared i.book) (on_all i.table) are e;
      apart = table_apart depth (granted i.prepared i.book) (on_all i.table) are e;
    }

pub returns : goal.returns
returns c =
    let i = c.self.inside in
    record {
      would = rw (← c.self.view_is) (stands depth meet_by_covers (granted i.prepared i.book) (on_all i.table) c.args.examiner
          (is_post c.args.access) c.args.tract.now c.ways.result c.cover.ensures.sized
          (kept_table depth i.prepared i.book i.table c.self.invariant.kept) (rw c.cover.ensures.cover at c.ways.ensures.way));
    }
