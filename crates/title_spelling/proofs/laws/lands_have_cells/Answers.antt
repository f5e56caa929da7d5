-- The law, by that of texts.
use Rattle.title_spelling.proofs.SomeCells.{lands_some}
use Rattle.title_spelling.proofs.laws.lands_have_cells.Goals as goal

pub returns : goal.returns
returns c = record { law = lands_some c.texts_are_read.ensures.land }
