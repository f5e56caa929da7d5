-- The rows' numbers are as many as a side, and so are the cells of each.
use Rattle.title_land.{specs.Depth.{depth}, proofs.GridRows.{rows_sized}}
use Rattle.title_land.proofs.grid.Grid.is_sized.Goals as goal

pub returns : goal.returns
returns c = record { sized = rw (← c.self.view_is) (rows_sized depth c.self.inside.rows c.self.invariant) }
