-- Each step goes one level down; the first cell that refuses is among those of the quarters that are left.
use Rattle.std.{proofs.Common.{◌≡◌, ◌<◌, drop}, specs.List.{flat_map}}
use Rattle.title_land.specs.{Depth.{depth}, CellLists.{cells_below}}
use Rattle.title_tree_store.{specs.Refusing.{first_for}, proofs.Firsts.{quarter_cells}}
use Rattle.title_tree_store.proofs.refusals.Search.+first_in_square.Given as goal

abbrev pub decreases-first_in_square : goal.decreases-first_in_square
decreases-first_in_square l = l.below

abbrev pub invariant-loop-which : goal.invariant-loop-which
invariant-loop-which l = (0 < l.below) × (first_for l.self (cells_below depth l.section l.below l.within)
    ≡ first_for l.self (flat_map (quarter_cells l.section l.below l.within) (drop l.which-index l.which-items)))
