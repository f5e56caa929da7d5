use Rattle.std.{proofs.Common.{◌≡◌, drop}, specs.List.{flat_map}}
use Rattle.title_land.specs.{Depth.{depth}, CellLists.{part_cells}, Lands.{cover_of}}
use Rattle.title_tree_store.specs.Refusing.{first_for}
use Rattle.title_tree_store.proofs.refusals.Search.first_in_cover.Given as goal

-- what is left has the first
abbrev pub invariant-loop-node : goal.invariant-loop-node
invariant-loop-node l = first_for l.self (flat_map (part_cells depth l.fn.section) (cover_of depth l.self.tract.now))
    ≡ first_for l.self (flat_map (part_cells depth l.fn.section) (drop l.node-index l.cover))
