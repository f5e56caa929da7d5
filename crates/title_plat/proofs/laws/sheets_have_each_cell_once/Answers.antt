-- What was left to show of `sheets_have_each_cell_once`.
use Rattle.title_plat.proofs.SheetCells.{sheets_tell}
use Rattle.title_plat.proofs.laws.sheets_have_each_cell_once.Goals as goal

pub returns : goal.returns
returns c = record { law = sheets_tell }
