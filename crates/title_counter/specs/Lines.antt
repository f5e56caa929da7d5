-- The lines of bytes that are given by and by.
use Rattle.std.specs.Prelude.{ℕ, ◌==◌, cond, List, [], ◌∷◌, ◌++◌, length, nat_le}
use Rattle.title_counter.specs.Limits.{longest_line}

abbrev pub line_feed : ℕ
line_feed = 10

-- a line with one byte more: one that is longer than it may be grows no further
abbrev pub with_byte : List ℕ → ℕ → List ℕ
with_byte line byte = cond (nat_le (length line) longest_line) (line ++ byte ∷ []) line

-- whole lines, each without its line feed, and the beginning of the next
pub record Lines : Type 0 where
  pub whole : List (List ℕ)
  pub rest : List ℕ

abbrev pub and_lines : List ℕ → Lines → Lines
and_lines line lines = record { whole = line ∷ lines.whole; rest = lines.rest }

-- the lines of bytes, where these are the beginning of the first
abbrev pub lines_from : List ℕ → List ℕ → Lines
lines_from line [] = record { whole = []; rest = line }
lines_from line (byte ∷ bytes) =
    cond (byte == line_feed) (and_lines line (lines_from [] bytes)) (lines_from (with_byte line byte) bytes)

abbrev pub lines_in : List ℕ → Lines
lines_in bytes = lines_from [] bytes

-- the last line, which lacks its line feed; there is none where nothing stands behind the last line feed
abbrev pub last_line : List ℕ → List (List ℕ)
last_line [] = []
last_line (byte ∷ bytes) = (byte ∷ bytes) ∷ []

-- all lines of bytes that have come to their end
abbrev pub all_lines : List ℕ → List (List ℕ)
all_lines bytes = (lines_in bytes).whole ++ last_line (lines_in bytes).rest
