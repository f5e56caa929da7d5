-- The order of a sheet's rows is that of the plant's cells.
use Rattle.std.specs.Prelude.{◌≡◌, ◌⊎◌, ℕ, true, List, [], ◌∷◌}
use Rattle.title_land.specs.{declared.{survey.{Cell.{Cell}, Township.{Township}}, tract.Land.{Land}}, Nodes.{node_has}}
use Rattle.title_land.specs.{Lands.{is_plant_cell}, CellLists.{same_cell, plant_cells}, CellOrder.{is_met_before}}
use Rattle.title_store.specs.{declared.sheet_row.SheetRow.{SheetRow}, Plants.{Plant, IsEachOnce}, Sheets.{sheet_of}, SheetShows.{Lists}}

-- each element stands so to all after it
abbrev pub InTurn : {A : Type 0} → (A → A → Type 0) → List A → Type 0
InTurn before [] = Unit {0}
InTurn before (x ∷ xs) = ((y : _) → Lists xs y → before x y) × InTurn before xs

-- where the rows are of one estate, they are of one node, or the plant's cells in the first one's are listed before the second one's
abbrev pub IsFirst : ℕ → List Township → SheetRow → SheetRow → Type 0
IsFirst depth townships x y = x.estate ≡ y.estate → (x.node ≡ y.node) ⊎ ((c e : Cell)
    → node_has depth x.node c ≡ true → node_has depth y.node e ≡ true
    → is_plant_cell depth townships c ≡ true → is_plant_cell depth townships e ≡ true
    → is_met_before same_cell (plant_cells depth townships) c e ≡ true)

-- the rows of each estate come in the order of their nodes' cells, where no township stands twice
abbrev pub SheetIsInOrder : ℕ → Type 0
SheetIsInOrder depth = (townships : List Township) (plant : Plant) (land : Land) → IsEachOnce townships
    → InTurn (IsFirst depth townships) (sheet_of depth townships plant land)
