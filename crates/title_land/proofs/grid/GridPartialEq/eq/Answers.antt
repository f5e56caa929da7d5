-- Two sets are one where their rows' numbers are.
use Rattle.title_land.{specs.Depth.{depth}, proofs.GridRows.{rows_equal}}
use Rattle.title_land.proofs.grid.GridPartialEq.eq.Goals as goal

pub returns : goal.returns
returns c = search (rows_equal depth)
