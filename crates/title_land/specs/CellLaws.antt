-- Laws of cells in their order.
use Rattle.std.specs.{Prelude.{◌≡◌, ℕ, true, ◌&&◌, ◌↔◌, List}, List.{list_any}}
use Rattle.title_land.specs.{declared.{survey.{Township.{Township}, Cell.{Cell}}, node.Node.{Node}, tract.Land.{Land}}, Nodes.{node_has}}
use Rattle.title_land.specs.{Lands.{has, is_plant_cell}, CellLists.{same_cell, plant_cells, cells_of, node_cells}}

-- a test of cells is their equality
abbrev pub SameCellsAreEqual : Type 0
SameCellsAreEqual = (a b : Cell) → (same_cell a b ≡ true) ↔ (a ≡ b)

-- the plant's list has exactly the cells on the grid of the declared townships
abbrev pub PlantHasItsCells : ℕ → Type 0
PlantHasItsCells depth = (townships : List Township) (c : Cell)
    → list_any (same_cell c) (plant_cells depth townships) ≡ is_plant_cell depth townships c

-- a land's list has exactly the plant's cells that lie in it
abbrev pub ListHasTheCells : ℕ → Type 0
ListHasTheCells depth = (townships : List Township) (land : Land) (c : Cell)
    → list_any (same_cell c) (cells_of depth townships land) ≡ (has land c && is_plant_cell depth townships c)

-- a node's list has exactly the plant's cells that lie in it
abbrev pub NodeListHasTheCells : ℕ → Type 0
NodeListHasTheCells depth = (townships : List Township) (n : Node) (c : Cell)
    → list_any (same_cell c) (node_cells depth townships n) ≡ (node_has depth n c && is_plant_cell depth townships c)
