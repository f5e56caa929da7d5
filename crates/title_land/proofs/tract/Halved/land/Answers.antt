-- The land of a half is as large as the grid.
use Rattle.std.proofs.Common.{subst, sym}
use Rattle.title_land.specs.{Depth.{depth}, declared.grid.Grid.{Grid}, Grids.{IsGrid}, Rectangles.{holds}, Laws.NodeLands.{is_grid-grid_of}}
use Rattle.title_land.proofs.tract.Halved.land.Goals as goal

pub returns-clause-sized : goal.returns-clause-sized
returns-clause-sized c = subst (λ (g : Grid). IsGrid depth g) (sym c.of.ensures.of) (is_grid-grid_of depth (holds c.half.result))
