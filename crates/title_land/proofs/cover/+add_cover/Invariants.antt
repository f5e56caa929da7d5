-- The levels below are fewer at each call; the nodes so far are those of the quarters so far.
use Rattle.std.{proofs.Common.{◌≡◌, ◌<◌, ◌-◌, ◌∷◌, ◌++◌, map, take}, specs.List.{flat_map}}
use Rattle.title_land.specs.{Covers.{cover_below, node_at}, Depth.{depth}, Grids.{grid_has}}
use Rattle.title_land.proofs.cover.+add_cover.Given as goal

abbrev pub decreases-add_cover : goal.decreases-add_cover
decreases-add_cover l = l.levels

abbrev pub invariant-loop-which : goal.invariant-loop-which
invariant-loop-which l =
    (0 < l.levels)
    × (l.nodes.items ≡ l.fn.nodes.items
    ++ flat_map (λ q. map (node_at l.section) (cover_below depth (grid_has l.grid) (l.levels - 1) (q ∷ l.within)))
    (take l.which-index l.which-items))
