-- What is kept is a sheet or a quarter's part.
use Rattle.std.proofs.Common.{subst}
use Rattle.title_desk.specs.{declared.kept_sheets.Kept.{Kept}, Shown.{IsKept}}
use Rattle.title_desk.proofs.kept_sheets.Home.keep.Goals as goal

pub returns-in-Sheet : goal.returns-in-Sheet
returns-in-Sheet c = record {
  kept = λ ts p k all is. c.keep_sheet.ensures.kept ts p k all (subst (λ (one : Kept). IsKept ts p k one) c.in-Sheet.is is);
}

pub returns-in-Quarter : goal.returns-in-Quarter
returns-in-Quarter c = record {
  kept = λ ts p k all is. c.keep_quarter.ensures.kept ts p k all (subst (λ (one : Kept). IsKept ts p k one) c.in-Quarter.is is);
}
