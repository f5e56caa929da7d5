-- Where transactions end, row by row. The rows of a plant's file are told apart by how they begin and by their commas, as quotes that
-- needn't be there change neither.
use Rattle.std.specs.{Prelude.{ℕ, ◌+◌, ◌-◌, ◌^◌, ◌==◌, ◌&&◌, not, cond, min, nat_le, Bool, false, List, [], ◌∷◌, count_by}, List.{find}}
use Rattle.std.specs.Prelude.{Option, Some, None}
use Rattle.title_journal.specs.Blocks.{open_gate}
use Rattle.title_daybook.specs.{Lines.{lines_of}, declared.ending.Walk.{Walk}}

-- ---- a row

abbrev pub quote : ℕ
quote = 34

abbrev pub comma : ℕ
comma = 44

-- whether a byte is a digit
abbrev pub is_digit : Option ℕ → Bool
is_digit None = false
is_digit (Some byte) = nat_le 48 byte && nat_le byte 57

-- whether a row is a step: it begins with an examiner's number, as no declaration, no gate and no end of a block does
abbrev pub is_step : List ℕ → Bool
is_step line = is_digit (find (λ byte. not (byte == quote)) line)

-- whether a step begins or commits: it has one comma, and a post has six at least
abbrev pub is_mark : List ℕ → Bool
is_mark line = count_by (λ byte. byte == comma) line == 1

-- whether a step ends a transaction: where one has begun that is its `commit`, and else a post
abbrev pub ends : Bool → List ℕ → Bool
ends begun step = cond begun (is_mark step) (not (is_mark step))

-- ---- rows

-- the number behind a row's; it stays at the greatest of 64 bits
abbrev pub next_row : ℕ → ℕ
next_row n = min (n + 1) (2 ^ 64 - 1)

-- past a step, which ends a transaction or not: where it doesn't, one has begun
abbrev pub past_step : Walk → Bool → Walk
past_step w ended = record { row = next_row w.row; begun = not ended; left = cond ended (w.left - 1) w.left }

-- past a row that is no step
abbrev pub past_other : Walk → Walk
past_other w = record { row = next_row w.row; begun = w.begun; left = w.left }

-- past a row; where no transaction is left to end, the walk stays
abbrev pub past_row : Walk → List ℕ → Walk
past_row w line = cond (w.left == 0) w (cond (is_step line) (past_step w (ends w.begun line)) (past_other w))

abbrev pub past_rows : Walk → List (List ℕ) → Walk
past_rows w [] = w
past_rows w (line ∷ lines) = past_rows (past_row w line) lines

-- past blocks, each behind its gate, which is a row too
abbrev pub past_blocks : Walk → List (List ℕ) → Walk
past_blocks w [] = w
past_blocks w (block ∷ blocks) = past_blocks (past_rows w ((open_gate ∷ []) ∷ lines_of block)) blocks

-- at the head, with so many transactions to end
abbrev pub at_head : ℕ → Walk
at_head left = record { row = 1; begun = false; left = left }

-- the row where a walk stays
abbrev pub stays_at : Walk → ℕ
stays_at w = cond (w.left == 0) w.row 0
