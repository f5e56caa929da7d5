-- The records are those of the trace.
use Rattle.std.proofs.Common.{◌∙◌, ap, reverse}
use Rattle.title_desk.proofs.desk.Desk.records.Goals as goal

pub returns : goal.returns
returns g c = rw (← c.self.view_is) record { records = ap reverse c.as_slice.ensures.slice ∙ c.self.invariant.records_are }
