-- What a sheet shows of the tract's cells, one by one.
use Rattle.std.specs.Prelude.{◌≡◌, ◌⊎◌, ◌↔◌, ℕ, true, List, [], ◌∷◌, Some}
use Rattle.title_share.specs.Division.{Division, rows_of}
use Rattle.title_land.specs.{declared.{survey.{Cell.{Cell}, Township.{Township}}, node.Node.{Node}, tract.Land.{Land}}, CoverSets.{LiesIn}}
use Rattle.title_land.specs.{Nodes.{node_has, parent_of}, Lands.{has, is_plant_cell}}
use Rattle.title_instrument.specs.{declared.parts.Estate.{Estate}, Owners.{holding_of}}
use Rattle.title_store.specs.{declared.sheet_row.SheetRow.{SheetRow}, Plants.{Plant, is_cell_of}, Sheets.{sheet_of}}

-- the list has this element
abbrev pub Lists : {A : Type 0} → List A → A → Type 0
Lists [] x = ⊥
Lists (y ∷ ys) x = (x ≡ y) ⊎ Lists ys x

-- each cell of the tract lies, for each estate, in a node whose rows are the entries of the cell's holding
abbrev pub SheetShowsEachCell : ℕ → Type 0
SheetShowsEachCell depth = (townships : List Township) (plant : Plant) (land : Land) (e : Estate) (c : Cell)
    → is_cell_of depth townships land c ≡ true
    → (n : Node) × (node_has depth n c ≡ true) × ((party units : ℕ)
    → Lists (sheet_of depth townships plant land) (record { node = n; estate = e; party = party; units = units })
    ↔ Lists (rows_of (holding_of e (plant c))) (party, units))

-- a row's node has cells of the tract alone
abbrev pub SheetStaysInside : ℕ → Type 0
SheetStaysInside depth = (townships : List Township) (plant : Plant) (land : Land) (x : SheetRow) (c : Cell)
    → Lists (sheet_of depth townships plant land) x → node_has depth x.node c ≡ true → has land c ≡ true

-- the nodes of two rows of one estate that have a cell in common are one
abbrev pub SheetNodesLieApart : ℕ → Type 0
SheetNodesLieApart depth = (townships : List Township) (plant : Plant) (land : Land) (x y : SheetRow) (c : Cell)
    → Lists (sheet_of depth townships plant land) x → Lists (sheet_of depth townships plant land) y → x.estate ≡ y.estate
    → node_has depth x.node c ≡ true → node_has depth y.node c ≡ true → x.node ≡ y.node

-- no row's node could be joined with its neighbours: where its parent lies in the tract, the parent's cells have no one holding
abbrev pub SheetNodesAreLargest : ℕ → Type 0
SheetNodesAreLargest depth = (townships : List Township) (plant : Plant) (land : Land) (x : SheetRow) (p : Node) (held : Division)
    → Lists (sheet_of depth townships plant land) x → parent_of x.node ≡ Some p → LiesIn depth land p
    → ¬ ((c : Cell) → node_has depth p c ≡ true → is_plant_cell depth townships c ≡ true → holding_of x.estate (plant c) ≡ held)
