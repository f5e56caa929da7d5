-- The records that the desk has.
use Rattle.std.proofs.Common.{subst}
use Rattle.title_office.specs.Offices.{Settles}
use Rattle.title_office.proofs.office.Office.settle.Goals as goal

pub returns-in-Ok : goal.returns-in-Ok
returns-in-Ok g c = record {
  settled = subst (λ os. Settles g.B.Room.setting os c.in-Ok.records) c.deref.ensures.value c.in-Ok.ensures.settled;
}
