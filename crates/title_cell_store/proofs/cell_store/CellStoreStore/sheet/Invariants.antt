-- The rows of the estates so far are added.
use Rattle.std.{proofs.Common.{◌+◌, ◌≡◌, take}, specs.List.{flat_map}}
use Rattle.title_land.specs.{Depth.{depth}, Lands.{cover_of}}
use Rattle.title_cell_store.specs.CellMaps.{content_of}
use Rattle.title_store.specs.Sheets.{sheet_below}
use Rattle.title_cell_store.proofs.cell_store.CellStoreStore.sheet.Given as goal

abbrev pub invariant-loop-estate : goal.invariant-loop-estate
invariant-loop-estate l = l.rows.items ≡ flat_map (λ e.
    flat_map (sheet_below (depth + 2) depth l.self.townships.items (content_of l.self.map) e) (cover_of depth l.tract))
    (take l.estate-index l.estate-items)
