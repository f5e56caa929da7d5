-- What stands in a plant's file, or the row at which it is no plant. Rows are numbered from 1 over the whole file: the head is row 1, and
-- each gate has a row.
use Rattle.std.specs.Prelude.{◌≡◌, ℕ, ◌+◌, List, [], ◌∷◌, length, Result, Ok, Err}
use Rattle.title_land.specs.Depth.{depth}
use Rattle.title_chain.specs.Alone.{IsSerial}
use Rattle.title_journal.specs.Blocks.{blocks_in}
use Rattle.title_daybook.specs.{Ends.{at_head, past_blocks, stays_at}, KeptRows.{Progress, after_rows, between}, Lines.{lines_of}}
use Rattle.title_daybook.specs.Standing.{Standing, nothing_standing}

-- goes on where rows could be read; the first fault stands, whatever follows
abbrev pub and_then : Result Progress ℕ → (Progress → Result Progress ℕ) → Result Progress ℕ
and_then (Ok after) more = more after
and_then (Err row) more = Err row

-- after blocks, of which the gate of the first is the n-th row
abbrev pub after_blocks : ℕ → Progress → List (List ℕ) → Result Progress ℕ
after_blocks n p [] = Ok p
after_blocks n p (block ∷ blocks) =
    and_then (after_rows (n + 1) p (lines_of block)) (λ after. after_blocks (n + 1 + length (lines_of block)) after blocks)

-- what stands then
abbrev pub what_stands : Result Progress ℕ → Result Standing ℕ
what_stands (Ok p) = Ok p.stands
what_stands (Err row) = Err row

-- what stands after a file's blocks; or the row at which a block isn't whole, or the first row at fault
abbrev pub standing_after : Result (List (List ℕ)) ℕ → Result Standing ℕ
standing_after (Ok blocks) = what_stands (after_blocks 2 (between nothing_standing) blocks)
standing_after (Err row) = Err row

-- what stands in a file
abbrev pub standing_in : List ℕ → Result Standing ℕ
standing_in file = standing_after (blocks_in file)

-- a file is a plant of what stands in it, where its records are serial
abbrev pub IsPlant : List ℕ → Standing → Type 0
IsPlant file s = (standing_in file ≡ Ok s) × IsSerial depth s.townships s.records

-- ---- where a transaction ends

abbrev pub row_among : Result (List (List ℕ)) ℕ → ℕ → ℕ
row_among (Ok blocks) place = stays_at (past_blocks (at_head place) blocks)
row_among (Err row) place = 0

-- the row of a file in which the transaction of this place ends: its `commit`, or a post outside of `begin` and `commit`. It is 1, the
-- head's, for place 0, and 0 where fewer transactions end
abbrev pub row_of : List ℕ → ℕ → ℕ
row_of file place = row_among (blocks_in file) place
