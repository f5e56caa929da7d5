-- The law is a lemma.
use Rattle.title_land.specs.Laws.CellsDoubled.{four_cells_lie_in as lemma}
use Rattle.title_land.proofs.doubled.four_cells_lie_in.Goals as goal

pub returns : goal.returns
returns c = record { law = lemma }
