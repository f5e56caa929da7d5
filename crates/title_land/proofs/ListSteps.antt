-- The cells of a node are those of its land.
use Rattle.std.proofs.Common.{◌≡◌, ℕ, List, filter}
use Rattle.title_land.specs.{declared.{survey.Township.{Township}, node.Node.{Node}}, Nodes.{IsNode}, Lands.{land_of}}
use Rattle.title_land.specs.{CellLists.{plant_cells, cells_of, node_cells}, Laws.NodeLands.{has-land_of}}

-- the listed cells of a node's land are the node's
pub cells_of-land_of : (d : ℕ) (ts : List Township) (n : Node) → IsNode d n → cells_of d ts (land_of d n) ≡ node_cells d ts n
unfolding cells_of node_cells
cells_of-land_of d ts n h = λ i. filter (λ c. has-land_of d n c h i) (plant_cells d ts)
