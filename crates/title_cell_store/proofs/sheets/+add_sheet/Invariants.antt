-- The sheets of the children so far are added; each has one level fewer below it.
use Rattle.std.{proofs.Common.{◌≡◌, ◌++◌, ◌-◌, take}, specs.List.{flat_map}}
use Rattle.title_land.specs.Depth.{depth}
use Rattle.title_cell_store.specs.CellMaps.{content_of}
use Rattle.title_store.specs.Sheets.{sheet_below}
use Rattle.title_cell_store.proofs.sheets.+add_sheet.Given as goal

abbrev pub decreases-add_sheet : goal.decreases-add_sheet
decreases-add_sheet l = l.levels

abbrev pub invariant-loop-child : goal.invariant-loop-child
invariant-loop-child l = l.rows.items ≡ l.fn.rows.items
    ++ flat_map (sheet_below (l.levels - 1) depth l.townships (content_of l.map) l.estate) (take l.child-index l.child-items)
