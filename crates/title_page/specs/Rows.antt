-- The text of rows, in the csv crate's own words.
use Rattle.std.specs.{Prelude.{ℕ, true, List}, List.{flat_map}}
use Rattle.csv.specs.{Writing.{default_writer, row_text, with_flexible}, declared.writer.WriterBuilder.{WriterBuilder}}

-- rows have any lengths, are quoted where they have to be, and each ends with a line feed
abbrev pub row_writer : WriterBuilder
row_writer = with_flexible default_writer true

-- the text of a row
unfoldable pub row : List (List ℕ) → List ℕ
row fields = row_text row_writer fields

-- the text of some rows
abbrev pub rows_text : List (List (List ℕ)) → List ℕ
rows_text rows = flat_map row rows
