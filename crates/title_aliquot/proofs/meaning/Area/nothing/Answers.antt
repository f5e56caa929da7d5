-- No rectangle has no cells.
use Rattle.title_aliquot.specs.Laws.Shapes.{overlap_none}
use Rattle.title_aliquot.proofs.meaning.Area.nothing.Goals as goal

pub returns : goal.returns
returns c = record { nothing = record { cells_are = c.empty.ensures.empty; decides = overlap_none } }
