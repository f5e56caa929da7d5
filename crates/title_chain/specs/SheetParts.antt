-- The rows of a sheet's parts.
use Rattle.std.specs.{Prelude.{List}, List.{flat_map}}
use Rattle.title_store.specs.declared.sheet_row.SheetRow.{SheetRow}

-- the rows of parts, one part after another
abbrev pub all_rows : List (List SheetRow) → List SheetRow
all_rows parts = flat_map (λ part. part) parts
