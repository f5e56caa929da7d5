-- The way from a section down to a cell.
use Rattle.std.specs.Prelude.{◌≡◌, ℕ, zero, suc, ◌<◌, ◌≤◌, Bool, true, false, List, [], ◌∷◌, length}
use Rattle.title_land.specs.{declared.rectangle.Quarter.{Quarter, TheVariants.{Northeast, Northwest, Southwest, Southeast}}, Survey.{side}}
use Rattle.title_land.specs.{declared.rectangle.Rectangle.{Rectangle}, Rectangles.{quarter_of, holds}, Nodes.{square}}
use Rattle.title_tree.specs.Paths.{way, begins}

-- the first quarter that has a cell, or else the last
abbrev pub quarter_by : Bool → Bool → Bool → Quarter
quarter_by true b c = Northeast
quarter_by false true c = Northwest
quarter_by false false true = Southwest
quarter_by false false false = Southeast

-- the quarter of a rectangle in which a cell of it lies
abbrev pub quarter_in : Rectangle → ℕ → ℕ → Quarter
quarter_in r row column =
    quarter_by (holds (quarter_of Northeast r) row column) (holds (quarter_of Northwest r) row column)
    (holds (quarter_of Southwest r) row column)

-- the quarters of a cell of a square with so many levels below it, the innermost first
abbrev pub cell_quarters : ℕ → ℕ → List Quarter → ℕ → ℕ → List Quarter
cell_quarters depth zero path row column = path
cell_quarters depth (suc levels) path row column =
    cell_quarters depth levels (quarter_in (square depth path) row column ∷ path) row column

-- the path of a cell of a section
abbrev pub cell_way : ℕ → ℕ → ℕ → List Quarter
cell_way depth row column = way (cell_quarters depth depth [] row column)

-- a cell lies in a square exactly where the square's path begins the cell's
abbrev pub SquaresByPaths : ℕ → Type 0
SquaresByPaths depth = (w : List Quarter) (row column : ℕ) → length w ≤ depth → row < side depth → column < side depth
    → holds (square depth w) row column ≡ begins (way w) (cell_way depth row column)

-- a cell's path has as many quarters as a section has levels
abbrev pub CellWaysAreWhole : ℕ → Type 0
CellWaysAreWhole depth = (row column : ℕ) → length (cell_way depth row column) ≡ depth
