-- The law same cells are equal.
use Rattle.title_land.specs.Laws.CellMembers.{same_cells_are_equal as lemma}
use Rattle.title_land.proofs.laws.same_cells_are_equal.Goals as goal

pub returns : goal.returns
returns c = record { law = lemma }
