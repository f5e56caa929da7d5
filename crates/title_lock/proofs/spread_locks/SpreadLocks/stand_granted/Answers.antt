-- The modes of any two examiners stand beside each other, and so each entry was granted.
use Rattle.title_land.specs.Depth.{depth}
use Rattle.title_lock.specs.{Locks.{granted}}
use Rattle.title_lock.proofs.{KeptLaws.{kept_table}, Granted.{apart_granted}, MeetLaws.{meet_by_covers}, Standing.{granted_free}}
use Rattle.title_lock.proofs.spread_locks.SpreadLocks.stand_granted.Goals as goal

pub returns : goal.returns
returns c =
    let entries = granted c.self.inside.prepared c.self.inside.book in
    let are = kept_table depth c.self.inside.prepared c.self.inside.book c.self.inside.table c.self.invariant.kept in
    let granted_all = apart_granted depth entries (λ e f o n. are.apart e f o n) in
    rw (← c.self.view_is) (record {
      free = granted_free depth meet_by_covers entries are.sized granted_all;
      granted = granted_all;
      sized = are.sized;
    })
