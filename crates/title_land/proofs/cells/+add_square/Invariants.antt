-- Each step goes one level down; the cells so far are those of the quarters so far.
use Rattle.std.{proofs.Common.{◌≡◌, ◌<◌, ◌-◌, ◌∷◌, ◌++◌, take}, specs.List.{filter, flat_map}}
use Rattle.title_land.specs.{CellLists.{cells_below}, Depth.{depth}, Lands.{has}}
use Rattle.title_land.proofs.cells.+add_square.Given as goal

abbrev pub decreases-add_square : goal.decreases-add_square
decreases-add_square l = l.levels

abbrev pub invariant-loop-which : goal.invariant-loop-which
invariant-loop-which l =
    (0 < l.levels)
    × (l.cells.items ≡ l.fn.cells.items
    ++ flat_map (λ q. filter (has l.tract) (cells_below depth l.section (l.levels - 1) (q ∷ l.within))) (take l.which-index l.which-items))
