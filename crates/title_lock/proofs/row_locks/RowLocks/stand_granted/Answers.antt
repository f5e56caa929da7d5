-- Entries that stand without overlap were all granted by modes.
use Rattle.std.proofs.Common.{subst, ap, List, reverse}
use Rattle.title_land.specs.Depth.{depth}
use Rattle.title_lock.{specs.{declared.guards.Entry.{Entry}, Asking.{AllGranted}, Locks.{Locks}}, proofs.MeetLaws.{meet_by_covers}}
use Rattle.title_lock.proofs.Standing.{free_granted}
use Rattle.title_lock.proofs.row_locks.RowLocks.stand_granted.Goals as goal

pub returns-clause-granted : goal.returns-clause-granted
returns-clause-granted c = subst (λ (es : List Entry). AllGranted depth es) (ap (λ (l : Locks). l.entries) c.self.view_is)
    (free_granted depth meet_by_covers (reverse c.self.inside.rows.items) c.self.invariant.sized c.self.invariant.free)
