-- Sets are one where their rows' numbers are.
use Rattle.title_land.{specs.Depth.{depth}, proofs.GridRows.{rows_tell}}
use Rattle.title_land.proofs.grid.Grid.is.Goals as goal

pub returns : goal.returns
returns c = record {
  is = rows_tell depth c.self.inside.rows c.other.inside.rows c.args.self.now c.args.other.now c.eq.result
      c.self.view_is c.other.view_is c.self.invariant c.other.invariant c.eq.ensures;
}
