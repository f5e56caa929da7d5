-- Sets are one exactly where the test holds.
use Rattle.title_spelling.proofs.Spelled.{tells_same}
use Rattle.title_spelling.proofs.lands.same_cells.Goals as goal

pub returns : goal.returns
returns c = record { same = tells_same c.is.result c.args.cells.now c.args.other.now c.is.ensures.is.0 c.is.ensures.is.1 }
