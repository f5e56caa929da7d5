-- Each cell so far has a slot, and nothing has changed hands.
use Rattle.std.{proofs.Common.{◌≡◌, true, take}, specs.List.{AllByRecursion}}
use Rattle.title_land.specs.declared.survey.Cell.{Cell}
use Rattle.title_cell_store.specs.CellMaps.{content_of, is_there}
use Rattle.title_cell_store.proofs.cell_map.CellMap.make_slots.Given as goal

abbrev pub invariant-loop-cell : goal.invariant-loop-cell
invariant-loop-cell l = record {
  content : (c : Cell) → content_of l.self c ≡ content_of l.fn.self c;
  stays : (c : Cell) → is_there l.fn.self c ≡ true → is_there l.self c ≡ true;
  there : AllByRecursion (λ c. is_there l.self c ≡ true) (take l.cell-index l.cells);
}
