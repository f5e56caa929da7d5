-- Rows of sheets as they are kept.
use Rattle.std.specs.Prelude.{List, map}
use Rattle.title_store.specs.declared.sheet_row.SheetRow.{SheetRow}
use Rattle.title_chain.specs.{declared.lists.{Lines.{Lines}, Sheet.{Sheet}}, SquareRows.{row_in}}
use Rattle.title_chain.specs.declared.lists.Lines.TheVariants as lines
use Rattle.title_chain.specs.declared.lists.Sheet.TheVariants as sheet

-- the rows that are kept
abbrev pub rows_in : Lines → List SheetRow
rows_in (lines.Plain rows) = rows.items
rows_in (lines.Squares s e rows) = map (row_in s e) rows.items

-- the rows of a sheet
abbrev pub sheet_in : Sheet → List SheetRow
sheet_in (sheet.Whole lines) = rows_in lines
sheet_in (sheet.Parted parts) = parts
