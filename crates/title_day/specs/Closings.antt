-- The report of a settled office, of what it shows.
use Rattle.std.specs.{Prelude.{ℕ, List, ◌∷◌, ◌++◌, map}, String.{string_bytes}}
use Rattle.title_page.specs.Rows.{row, rows_text}
use Rattle.title_report.specs.Replies.{end_row, reply_rows}
use Rattle.title_day.specs.{declared.closing.Closing.{Closing}, Tallies.{settled_row, tally_row}}

-- the rows: the tallies, how many records there are, and the closing sheet as a reply to nobody's number, 0
abbrev pub closed_rows : Closing → List (List (List ℕ))
closed_rows c =
    map tally_row c.tallies.items ++ settled_row c.records ∷ reply_rows (map string_bytes c.names.keys) 0 c.sheet

-- the text: these rows, and the last, with the number of step rows
abbrev pub closed_text : Closing → List ℕ
closed_text c = rows_text (closed_rows c) ++ row (end_row c.steps)
