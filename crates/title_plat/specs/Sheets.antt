-- Which sheet of a report is wanted.
use Rattle.std.specs.Prelude.{ℕ, zero, suc, List, Option, None, length, slice_get}
use Rattle.title_plat.specs.declared.sheet.{Extent.{Extent}, Wanted.{Wanted}}
use Rattle.title_plat.specs.declared.sheet.Wanted.TheVariants as wanted

-- the sheet with this number, counted from 1
abbrev pub nth_sheet : List Extent → ℕ → Option Extent
nth_sheet sheets zero = None
nth_sheet sheets (suc before) = slice_get sheets before

-- the sheet that is wanted, of sheets in their order: the last is the one whose number is their count
abbrev pub sheet_in : List Extent → Wanted → Option Extent
sheet_in sheets (wanted.Number number) = nth_sheet sheets number
sheet_in sheets wanted.Last = nth_sheet sheets (length sheets)
