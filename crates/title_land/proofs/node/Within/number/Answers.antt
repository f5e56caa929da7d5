-- A square's number is that of its quarters.
use Rattle.title_land.specs.Laws.PathNumbers.{number_of}
use Rattle.title_land.proofs.node.Within.number.Goals as goal

pub returns : goal.returns
returns c = record { number = number_of _ _ c.self.invariant c.self.view_is }
