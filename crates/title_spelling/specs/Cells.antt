-- The cells form of a part of a section: the section's text, ` cells`, and for each row from the north a word of four
-- hexadecimal digits, a bit a cell. The west cell of four has the highest bit.
use Rattle.std.specs.Prelude.{ℕ, ◌+◌, ◌*◌, ◌-◌, ◌/◌, ◌%◌, ◌==◌, ◌&&◌, cond, nat_lt, Bool, List, [], ◌∷◌, ◌++◌, codes, length, take, drop}
use Rattle.std.specs.{Prelude.{Option, Some, None, Result, Ok, slice_index_or}, Char.{digit_char}, Int.{bit_at}, List.{flat_map}}
use Rattle.std.specs.Str.{bytes_eq}
use Rattle.title_land.specs.{declared.{grid.Grid.{Grid}, survey.Section.{Section}, tract.Land.{Land}}, Depth.{depth}, Texts.{section_text}}
use Rattle.title_land.specs.Grids.{grid_has, grid_of, has_some, indices}
use Rattle.title_land.specs.declared.tract.Land.TheVariants as land
use Rattle.title_aliquot.specs.declared.fault.DescFault.{DescFault}
use Rattle.title_plan.specs.Lands.{land_in}

-- ---- what is written

-- the number of four cells
abbrev pub number_of : Bool → Bool → Bool → Bool → ℕ
number_of a b c d = cond a 8 0 + cond b 4 0 + cond c 2 0 + cond d 1 0

-- the digit of four cells of a row, from a column on
abbrev pub digit_at : (ℕ → ℕ → Bool) → ℕ → ℕ → ℕ
digit_at has row column = digit_char (number_of (has row column) (has row (column + 1)) (has row (column + 2)) (has row (column + 3)))

-- a row: a space and its word
abbrev pub row_text : (ℕ → ℕ → Bool) → ℕ → List ℕ
row_text has row = 32 ∷ digit_at has row 0 ∷ digit_at has row 4 ∷ digit_at has row 8 ∷ digit_at has row 12 ∷ []

-- the rows of a set
abbrev pub rows_text : (ℕ → ℕ → Bool) → List ℕ
rows_text has = flat_map (row_text has) (indices depth)

-- a part of a section in the cells form
abbrev pub spelled_cells : Section → Grid → List ℕ
spelled_cells s g = section_text s ++ codes " cells" ++ rows_text (grid_has g)

-- ---- what is read

-- the bytes of the rows, and of those and the word in front
abbrev pub rows_bytes : ℕ
rows_bytes = 80

abbrev pub cells_bytes : ℕ
cells_bytes = 86

-- the number of a digit
abbrev pub value_of : ℕ → ℕ
value_of b = cond (nat_lt b 97) (b - 48) (b - 87)

-- the text of rows has the cell of this row and column
abbrev pub is_marked : List ℕ → ℕ → ℕ → Bool
is_marked rows row column = bit_at (value_of (slice_index_or rows (5 * row + (1 + column / 4)) 0)) (3 - column % 4) == 1

-- the cells that the last bytes of a text mark
abbrev pub marked_in : List ℕ → Grid
marked_in text = grid_of depth (is_marked (drop (length text - rows_bytes) text))

-- the section of which a description says a part
abbrev pub section_of : Result Land DescFault → Option Section
section_of (Ok (land.Part s g)) = Some s
section_of _ = None

-- the part of a section, where it has a cell and the text is its cells form
abbrev pub if_spelled : List ℕ → Option Section → Grid → Option Land
if_spelled text (Some s) g = cond (has_some g && bytes_eq text (spelled_cells s g)) (Some (land.Part s g)) None
if_spelled text None g = None

-- the part of a section of which a text is the cells form
unfoldable pub cells_in : List ℕ → Option Land
cells_in text = if_spelled text (section_of (land_in (take (length text - cells_bytes) text))) (marked_in text)
