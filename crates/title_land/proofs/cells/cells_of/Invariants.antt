-- The cells so far are those of the townships so far.
use Rattle.std.{proofs.Common.{◌≡◌, take}, specs.List.{filter, flat_map}}
use Rattle.title_land.specs.{Depth.{depth}, Lands.{has}, CellLists.{township_cells}}
use Rattle.title_land.proofs.cells.cells_of.Given as goal

abbrev pub invariant-loop-township : goal.invariant-loop-township
invariant-loop-township l =
    l.cells.items ≡ filter (has l.tract) (flat_map (township_cells depth) (take l.township-index l.townships))
