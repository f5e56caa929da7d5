-- A row of cells as a number, and a grid of cells as its rows' numbers.
use Rattle.std.specs.{Prelude.{◌≡◌, ◌<◌, ℕ, ◌+◌, ◌^◌, ◌==◌, nat_le, nat_lt, Bool, ◌&&◌, List, map, length}, Int.{bit_at}}
use Rattle.std.specs.{List.{range_with_len, All}, Simd.Lanes.{mask_l}}
use Rattle.title_land.specs.Survey.{side}

-- the cell of this column is set in a row's number
abbrev pub is_set : ℕ → ℕ → Bool
is_set row column = bit_at row column == 1

-- the cells set in a row's number are those of so many columns from this one on
abbrev pub HasColumns : ℕ → ℕ → ℕ → Type 0
HasColumns row left width = (column : ℕ) → is_set row column ≡ (nat_le left column && nat_lt column (left + width))

-- a row's first cells, from its number
unfoldable pub row_cells : ℕ → ℕ → List Bool
row_cells columns row = map (is_set row) (range_with_len 0 columns)

-- the cells of a section's rows, from their numbers
abbrev pub grid_cells : ℕ → List ℕ → List (List Bool)
grid_cells depth rows = map (row_cells (side depth)) rows

-- the rows' numbers, from the cells: the cell of column k counts 2 ^ k
abbrev pub row_numbers : List (List Bool) → List ℕ
row_numbers cells = map mask_l cells

-- as many rows as a section's side, none with a cell past the last column
abbrev pub IsRows : ℕ → List ℕ → Type 0
IsRows depth rows = (length rows ≡ side depth) × All (λ row. row < 2 ^ side depth) rows
