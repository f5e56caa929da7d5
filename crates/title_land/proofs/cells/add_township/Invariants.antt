-- The cells so far and those of the sections that are left are all.
use Rattle.std.{proofs.Common.{◌≡◌, ◌++◌}, specs.List.{filter, flat_map}}
use Rattle.title_land.specs.{CellLists.{section_cells, township_cells}, Depth.{depth}, Lands.{has}}
use Rattle.title_land.proofs.cells.add_township.Given as goal

abbrev pub invariant-loop-section : goal.invariant-loop-section
invariant-loop-section l =
    l.cells.items ++ filter (has l.tract) (flat_map (section_cells depth) l.section-iterator)
    ≡ l.fn.cells.items ++ filter (has l.tract) (township_cells depth l.fn.township)
