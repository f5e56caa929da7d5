-- A set has a cell where a row's number isn't 0.
use Rattle.std.proofs.Common.{◌∙◌}
use Rattle.title_land.{specs.Depth.{depth}, proofs.GridRows.{rows_some}}
use Rattle.title_land.proofs.grid.Grid.has_some.Goals as goal

pub returns : goal.returns
returns c = record { some = rw (← c.self.view_is) (c.have_bits.ensures.some ∙ rows_some depth c.self.inside.rows c.self.invariant) }
