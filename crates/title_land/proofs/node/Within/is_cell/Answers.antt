-- A cell's number is one of the last.
use Rattle.title_land.specs.Laws.PathNumbers.{number_of, cell_test}
use Rattle.title_land.proofs.node.Within.is_cell.Goals as goal

pub returns : goal.returns
returns c = record { cell = cell_test c.self.inside.number c.args.self (number_of _ _ c.self.invariant c.self.view_is) }
