-- The desk's type says so.
use Rattle.title_desk.proofs.desk.Desk.is_due.Goals as goal

pub returns : goal.returns
returns g c = rw (← c.self.view_is) record { due = c.self.invariant.due; few = c.self.invariant.few }
