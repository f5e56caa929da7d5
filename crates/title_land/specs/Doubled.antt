-- A section that is quartered once more: each cell becomes four of half the side, and what lies where stays.
use Rattle.std.specs.{Prelude.{◌≡◌, ℕ, suc, ◌+◌, ◌*◌, ◌/◌, true, List, [], ◌∷◌, Some}, List.{list_any, flat_map}}
use Rattle.title_land.specs.declared.{survey.{Township.{Township}, Section.{Section}, Cell.{Cell}}, rectangle.Step.{Step}, node.Node.{Node}}
use Rattle.title_land.specs.{declared.{rectangle.Rectangle.{Rectangle}, tract.Land.{Land}}, Survey.{is_on_grid}, Rectangles.{part_of}}
use Rattle.title_land.specs.{Nodes.{node_has, IsNode}, Grids.{grid_has, grid_of}, Lands.{has, cover_of, land_of, meets, IsLand}}
use Rattle.title_land.specs.CellLists.{same_cell, cells_of, node_cells}
use Rattle.title_land.specs.declared.tract.Land.TheVariants as land

-- the rectangle in cells of half the side
abbrev pub double : Rectangle → Rectangle
double r = record { top = 2 * r.top; left = 2 * r.left; height = 2 * r.height; width = 2 * r.width }

-- the cell, where the section is quartered once less, in which a cell lies
abbrev pub halved : Cell → Cell
halved c = record { section = c.section; row = c.row / 2; column = c.column / 2 }

-- the cell in this row and column of a section
abbrev pub cell_in : Section → ℕ → ℕ → Cell
cell_in s row column = record { section = s; row = row; column = column }

-- the four cells that a cell is quartered into, in the order of quarters
abbrev pub four_cells : Cell → List Cell
four_cells c =
    cell_in c.section (2 * c.row) (2 * c.column + 1)
    ∷ cell_in c.section (2 * c.row) (2 * c.column)
    ∷ cell_in c.section (2 * c.row + 1) (2 * c.column)
    ∷ cell_in c.section (2 * c.row + 1) (2 * c.column + 1)
    ∷ []

-- the same land, where each section is quartered once more than this: of a section's set, the cells that lie in its cells
unfoldable pub doubled : ℕ → Land → Land
doubled depth land.Everything = land.Everything
doubled depth (land.Township t) = land.Township t
doubled depth (land.Part s g) = land.Part s (grid_of (suc depth) (λ row column. grid_has g (row / 2) (column / 2)))

-- ---- laws

-- a part that isn't too small is the same part where the section is quartered once more
abbrev pub APartDoubles : Type 0
APartDoubles = (depth : ℕ) (steps : List Step) (r : Rectangle)
    → part_of depth steps ≡ Some r → part_of (suc depth) steps ≡ Some (double r)

-- a cell is one of the four of another exactly where it lies in that other
abbrev pub FourCellsLieIn : Type 0
FourCellsLieIn = (a b : Cell) → list_any (same_cell a) (four_cells b) ≡ same_cell (halved a) b

-- a cell of the finer grid lies in the doubled land exactly where the cell that it lies in lies in the land
abbrev pub DoubledHasTheCells : Type 0
DoubledHasTheCells = (depth : ℕ) (land : Land) (c : Cell) → is_on_grid (suc depth) c ≡ true
    → has (doubled depth land) c ≡ has land (halved c)

-- and in a node exactly where the cell that it lies in does
abbrev pub NodesHaveTheCells : Type 0
NodesHaveTheCells = (depth : ℕ) (n : Node) (c : Cell) → IsNode depth n → node_has (suc depth) n c ≡ node_has depth n (halved c)

-- the doubled land is as large as the finer grid
abbrev pub DoubledIsLand : Type 0
DoubledIsLand = (depth : ℕ) (land : Land) → IsLand (suc depth) (doubled depth land)

-- the doubled land of a node is the node's land
abbrev pub NodeLandDoubles : Type 0
NodeLandDoubles = (depth : ℕ) (n : Node) → IsNode depth n → doubled depth (land_of depth n) ≡ land_of (suc depth) n

-- the doubled land has the same cover: the same nodes in the same order, and so the same texts
abbrev pub CoverDoubles : Type 0
CoverDoubles = (depth : ℕ) (land : Land) → cover_of (suc depth) (doubled depth land) ≡ cover_of depth land

-- two lands meet exactly where their doubles do
abbrev pub MeetsDoubles : Type 0
MeetsDoubles = (depth : ℕ) (a b : Land) → IsLand depth a → IsLand depth b → meets (doubled depth a) (doubled depth b) ≡ meets a b

-- the cells of the doubled land in order are those of the land, each replaced by its four
abbrev pub CellsDouble : Type 0
CellsDouble = (depth : ℕ) (townships : List Township) (land : Land)
    → cells_of (suc depth) townships (doubled depth land) ≡ flat_map four_cells (cells_of depth townships land)

-- and so are those of a node
abbrev pub NodeCellsDouble : Type 0
NodeCellsDouble = (depth : ℕ) (townships : List Township) (n : Node) → IsNode depth n
    → node_cells (suc depth) townships n ≡ flat_map four_cells (node_cells depth townships n)
