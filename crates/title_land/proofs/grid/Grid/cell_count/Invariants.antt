-- The cells counted so far.
use Rattle.std.{proofs.Common.{◌≡◌, ◌≤◌, ◌*◌, take, sum_by}, specs.Prelude.{count_ones}}
use Rattle.title_land.specs.{Depth.{depth}, Survey.{side}}
use Rattle.title_land.proofs.grid.Grid.cell_count.Given as goal

abbrev pub invariant-loop-row : goal.invariant-loop-row
invariant-loop-row l = record {
  counted : l.count ≡ sum_by count_ones (take l.row-index l.row-items);
  most : l.count ≤ side depth * l.row-index;
}
