-- The first cell that refuses is among those of the townships that are left.
use Rattle.std.{proofs.Common.{◌≡◌, drop}, specs.List.{flat_map}}
use Rattle.title_land.specs.{Depth.{depth}, CellLists.{township_cells}}
use Rattle.title_tree_store.specs.Refusing.{first_for}
use Rattle.title_tree_store.proofs.refusals.Search.first_in_plant.Given as goal

abbrev pub invariant-loop-township : goal.invariant-loop-township
invariant-loop-township l = first_for l.self (flat_map (township_cells depth) l.self.townships.now)
    ≡ first_for l.self (flat_map (township_cells depth) (drop l.township-index l.list))
