-- The rows that are left to look at.
use Rattle.std.proofs.Common.{◌≡◌, ◌-◌}
use Rattle.title_land.specs.Grids.{fills, row_fills, range_all, grid_has}
use Rattle.title_land.proofs.grid.fills.Given as goal

abbrev pub invariant-loop-row : goal.invariant-loop-row
invariant-loop-row l = fills (grid_has l.grid) l.fn.r ≡ range_all (λ row. row_fills (grid_has l.grid) l.fn.r row) l.row (l.row-end - l.row)
