-- How the sections of a township are numbered (BLM, Manual of Surveying Instructions, 2009).
use Rattle.std.specs.Prelude.{ℕ, ◌+◌, ◌*◌, ◌-◌, ◌%◌, ◌==◌, if◌then◌else◌}

-- the number of the section in a row from the north and a column from the west: six to a row, from 1 in the northeast corner
-- to the west, the next row back to the east, and so on
abbrev pub section_number : ℕ → ℕ → ℕ
section_number row column = 6 * row + (if row % 2 == 0 then 6 - column else column + 1)
