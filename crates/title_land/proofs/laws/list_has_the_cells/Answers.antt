-- The law list has the cells.
use Rattle.title_land.specs.{Laws.CellMembers.{list_has_the_cells as lemma}, Depth.{depth}}
use Rattle.title_land.proofs.laws.list_has_the_cells.Goals as goal

pub returns : goal.returns
returns c = record { law = lemma depth }
