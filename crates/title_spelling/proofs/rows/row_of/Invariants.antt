-- The fields so far stand in the row.
use Rattle.std.proofs.Common.{◌≡◌, map, take}
use Rattle.csv.specs.Writing.{row_body}
use Rattle.title_page.specs.Rows.{row_writer}
use Rattle.title_spelling.proofs.rows.row_of.Given as goal

abbrev pub invariant-loop-at : goal.invariant-loop-at
invariant-loop-at l = l.text.items ≡ row_body row_writer (take l.at (map (λ field. field.now) l.fields))
