-- The law, by those of texts and nodes.
use Rattle.title_spelling.proofs.Spelled.{cells_exact, parts_alone}
use Rattle.title_spelling.proofs.laws.cells_are_read.Goals as goal

pub returns : goal.returns
returns c = record { read = cells_exact c.reads_back.ensures.law c.texts_are_read.ensures.land; alone = parts_alone }
