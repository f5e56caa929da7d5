-- The rows of the estates so far are added.
use Rattle.std.{proofs.Common.{◌+◌, ◌≡◌, take}, specs.List.{flat_map}}
use Rattle.title_land.specs.{Depth.{depth}, Lands.{cover_of}}
use Rattle.title_tree_store.specs.{Forests.{grounds}, TreeSheets.{tree_sheet}}
use Rattle.title_tree_store.proofs.tree_store.TreeStoreStore.sheet.Given as goal

abbrev pub invariant-loop-estate : goal.invariant-loop-estate
invariant-loop-estate l = l.rows.items ≡ flat_map (λ e.
    flat_map (tree_sheet (depth + 2) l.self.townships (grounds l.self.forest e) e) (cover_of depth l.tract))
    (take l.estate-index l.estate-items)
