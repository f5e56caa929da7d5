-- The plant that was made shows the sheet.
use Rattle.std.proofs.Common.{refl}
use Rattle.title_views.proofs.Making.{made_sheet}
use Rattle.title_views.proofs.look.sheet_of_all.Goals as goal

pub returns-in-Ok-sheet-clause-shown : goal.returns-in-Ok-sheet-clause-shown
returns-in-Ok-sheet-clause-shown g c = (
  refl,
  made_sheet c.args.townships.now c.args.records.now c.in-Ok.kept.count (g.S.Store.content c.in-Ok.kept.store)
      (g.S.Store.declared c.in-Ok.kept.store) (g.S.Store.out c.in-Ok.kept.store) c.args.tract.now c.in-Ok-sheet.rows
      c.in-Ok.ensures.kept.0 c.in-Ok.ensures.count c.in-Ok-sheet.ensures.sheet,
)
