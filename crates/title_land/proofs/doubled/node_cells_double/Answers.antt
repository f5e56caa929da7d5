-- The law is a lemma.
use Rattle.title_land.specs.Laws.ListsDoubled.{node_cells_double as lemma}
use Rattle.title_land.proofs.doubled.node_cells_double.Goals as goal

pub returns : goal.returns
returns c = record { law = lemma }
