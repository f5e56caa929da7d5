-- Sets of a section's cells.
use Rattle.std.specs.Prelude.{◌≡◌, ◌<◌, ℕ, zero, suc, ◌+◌, Bool, true, false, ◌&&◌, ◌||◌, List, map, length, slice_get, unwrap_or}
use Rattle.std.specs.{Prelude.{option_and_then, sum_by, count_by}, List.{list_any, range_with_len, zip, All}}
use Rattle.title_land.specs.{Survey.{side}, Rectangles.{holds}, declared.{grid.Grid.{Grid}, rectangle.Rectangle.{Rectangle}}}

-- the cell of this row and column lies in the set; off the grid no cell does
abbrev pub grid_has : Grid → ℕ → ℕ → Bool
grid_has g row column = unwrap_or (option_and_then (λ cells. slice_get cells column) (slice_get g row)) false

-- a test holds at each of n numbers from start on
abbrev pub range_all : (ℕ → Bool) → ℕ → ℕ → Bool
range_all test start zero = true
range_all test start (suc n) = test start && range_all test (start + 1) n

-- a set has each cell of a rectangle in one row
abbrev pub row_fills : (ℕ → ℕ → Bool) → Rectangle → ℕ → Bool
row_fills has r row = range_all (λ column. has row column) r.left r.width

-- a set has each cell of a rectangle
abbrev pub fills : (ℕ → ℕ → Bool) → Rectangle → Bool
fills has r = range_all (λ row. row_fills has r row) r.top r.height

-- two rows of cells have one in common
abbrev pub rows_meet : List Bool → List Bool → Bool
rows_meet row cells = list_any (λ pair. pair.0 && pair.1) (zip row cells)

-- two sets share a cell
abbrev pub grids_meet : Grid → Grid → Bool
grids_meet g h = list_any (λ pair. rows_meet pair.0 pair.1) (zip g h)

-- a set has a cell
abbrev pub has_some : Grid → Bool
has_some g = list_any (λ row. list_any (λ cell. cell) row) g

abbrev pub row_count : List Bool → ℕ
row_count row = count_by (λ cell. cell) row

-- the number of cells in a set
abbrev pub cell_count : Grid → ℕ
cell_count g = sum_by row_count g

-- the set has as many rows as a section's side, each with as many cells
abbrev pub IsGrid : ℕ → Grid → Type 0
IsGrid depth g = (length g ≡ side depth) × All (λ row. length row ≡ side depth) g

-- the numbers of a section's rows, and of its columns
abbrev pub indices : ℕ → List ℕ
indices depth = range_with_len 0 (side depth)

-- the set of a section's cells at which a test holds
unfoldable pub grid_of : ℕ → (ℕ → ℕ → Bool) → Grid
grid_of depth test = map (λ row. map (λ column. test row column) (indices depth)) (indices depth)

-- the set with a rectangle's cells added
unfoldable pub with_rectangle : ℕ → Grid → Rectangle → Grid
with_rectangle depth g r = grid_of depth (λ row column. grid_has g row column || holds r row column)

-- the second set is the first with a rectangle's cells added, said cell by cell
abbrev pub AddsRectangle : ℕ → Grid → Rectangle → Grid → Type 0
AddsRectangle depth g r h =
    (row column : ℕ) → row < side depth → column < side depth →
    grid_has h row column ≡ (grid_has g row column || holds r row column)

-- the number of a section's cells at which a test holds, row by row
unfoldable pub cells_counted : ℕ → (ℕ → ℕ → Bool) → ℕ
cells_counted depth test = sum_by (λ row. count_by (λ column. test row column) (indices depth)) (indices depth)
