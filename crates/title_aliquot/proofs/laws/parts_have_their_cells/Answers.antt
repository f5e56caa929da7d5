-- What was left to show of `parts_have_their_cells`.
use Rattle.title_land.specs.{Laws.GridLaws.{grid_has-grid_of}, Depth.{depth}}
use Rattle.title_aliquot.specs.Meaning.{rectangles, union}
use Rattle.title_aliquot.proofs.laws.parts_have_their_cells.Goals as goal

pub returns : goal.returns
returns c = record { law = λ parts row column l m. grid_has-grid_of depth (union (rectangles depth parts)) row column l m }
