-- The sheets of the nodes so far are added.
use Rattle.std.{proofs.Common.{◌+◌, ◌≡◌, ◌++◌, take}, specs.List.{flat_map}}
use Rattle.title_land.specs.Depth.{depth}
use Rattle.title_cell_store.specs.CellMaps.{content_of}
use Rattle.title_store.specs.Sheets.{sheet_below}
use Rattle.title_cell_store.proofs.sheets.add_estate.Given as goal

abbrev pub invariant-loop-node : goal.invariant-loop-node
invariant-loop-node l = l.rows.items ≡ l.fn.rows.items
    ++ flat_map (sheet_below (depth + 2) depth l.townships (content_of l.map) l.estate) (take l.node-index l.node-items)
