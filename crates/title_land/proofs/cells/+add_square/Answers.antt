-- The cells of a square come quarter by quarter.
use Rattle.title_land.{specs.Lands.{has}, proofs.CellSquares.{square_done}}
use Rattle.title_land.proofs.cells.+add_square.Goals as goal

pub returns : goal.returns
returns t c = record {
  cells = square_done (has c.args.tract.now) c.args.section c.args.levels c.args.within c.args.cells.now.items _ c.loop-which.which-index
      c.loop-which.invariant.0 c.loop-which-test.false c.loop-which.invariant.1;
}
