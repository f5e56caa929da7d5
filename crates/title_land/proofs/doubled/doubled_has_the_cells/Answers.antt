-- The law is a lemma.
use Rattle.title_land.specs.Laws.CellsDoubled.{doubled_has_the_cells as lemma}
use Rattle.title_land.proofs.doubled.doubled_has_the_cells.Goals as goal

pub returns : goal.returns
returns c = record { law = lemma }
