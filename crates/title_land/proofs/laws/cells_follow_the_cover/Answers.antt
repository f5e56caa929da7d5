-- The law cells follow the cover.
use Rattle.title_land.specs.{Laws.CellsInOrder.{cells_follow_the_cover as lemma}, Depth.{depth}}
use Rattle.title_land.proofs.laws.cells_follow_the_cover.Goals as goal

pub returns : goal.returns
returns c = record { law = lemma depth }
