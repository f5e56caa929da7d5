-- After the last township all cells are there.
use Rattle.title_land.specs.Laws.CellFilters.{plant_all}
use Rattle.title_land.proofs.cells.cells_of.Goals as goal

pub returns : goal.returns
returns c = record {
  cells = plant_all c.args.townships.now c.args.tract.now c.loop-township.township-index c.loop-township.cells.items
      c.loop-township-test.false c.loop-township.invariant;
}
