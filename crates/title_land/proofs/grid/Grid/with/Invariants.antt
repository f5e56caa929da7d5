-- The rows that have the rectangle's columns so far.
use Rattle.title_land.proofs.GridRows.{AddsMask}
use Rattle.title_land.proofs.grid.Grid.with.Given as goal

abbrev pub invariant-loop-row : goal.invariant-loop-row
invariant-loop-row l = AddsMask l.fn.r.top l.row l.columns l.initial.rows l.rows
