-- Sheets, read off trees.
use Rattle.std.specs.{Prelude.{ℕ, zero, suc, ◌-◌, List, [], Option}, List.{flat_map}}
use Rattle.title_share.specs.Division.{Division}
use Rattle.title_land.specs.{Depth.{depth}, declared.{survey.Township.{Township}, node.Node.{Node}}, CellLists.{children_of}}
use Rattle.title_instrument.specs.declared.parts.Estate.{Estate}
use Rattle.title_store.specs.{declared.sheet_row.SheetRow.{SheetRow}, Sheets.{rows_or}}
use Rattle.title_tree.specs.{Paths.{way}, Plots.{plot_at, uniform}}
use Rattle.title_tree_store.specs.{declared.ground.Ground.{Ground}, Grounds.{plot_in, uniform_in, grounds_uniform}, Spots.{index_of}}
use Rattle.title_land.specs.declared.node.Node.TheVariants as node

-- the one division of a node's cells
abbrev pub node_uniform : List Township → List Ground → Node → Option Division
node_uniform ts gs node.Everything = grounds_uniform gs
node_uniform ts gs (node.Township t) = uniform_in gs (index_of ts t)
node_uniform ts gs (node.Part s w) = uniform (plot_at (way w) (plot_in gs (index_of ts s.township) (s.number - 1)))

-- the sheet of a node with so many levels of nodes below it: its rows where its leaves have one holding, else its children's sheets
abbrev pub tree_sheet : ℕ → List Township → List Ground → Estate → Node → List SheetRow
tree_sheet zero ts gs e n = rows_or n e (node_uniform ts gs n) []
tree_sheet (suc below) ts gs e n = rows_or n e (node_uniform ts gs n) (flat_map (tree_sheet below ts gs e) (children_of depth ts n))
