-- What makes rows a sheet: each cell that is drawn lies in one part of every estate, or in none of any, and shares are a whole.
use Rattle.std.specs.Prelude.{◌≡◌, ◌&&◌, ◌==◌, ℕ, Bool, false, List, count_by, nat_le, sum_by}
use Rattle.std.specs.List.{list_all, range_with_len}
use Rattle.title_instrument.specs.declared.parts.Estate.{Estate, TheVariants.{S, O, M}}
use Rattle.title_land.specs.{declared.survey.{Cell.{Cell}, Section.{Section}, Township.{Township}}, Depth.{depth}, Nodes.{node_has}}
use Rattle.title_land.specs.{CellLists.{sections_of}, Survey.{side}}
use Rattle.title_share.specs.Rows.{whole_units}
use Rattle.title_plat.specs.declared.{fault.PlatFault.{PlatFault}, parts.Part.{Part}, row.Row.{Row}}
use Rattle.title_plat.specs.{Parts.{same_estate, owners_of, parts_of}, Drawn.{Drawn, one_section, some_townships, everything, land_drawn}}
use Rattle.title_plat.specs.declared.fault.PlatFault.TheVariants as fault

-- a part is one of this estate and has the cell
abbrev pub has_cell : Estate → Cell → Part → Bool
has_cell estate cell part = same_estate part.estate estate && node_has depth part.node cell

-- how many parts of an estate have a cell
abbrev pub parts_at : List Part → Estate → Cell → ℕ
parts_at parts estate cell = count_by (has_cell estate cell) parts

-- a cell lies in one part of each estate, or in none of any
abbrev pub is_once : List Part → Cell → Bool
is_once parts cell =
    nat_le (parts_at parts S cell) 1 && parts_at parts S cell == parts_at parts O cell && parts_at parts S cell == parts_at parts M cell

-- so does each cell of a row of a section
abbrev pub row_is_once : List Part → Section → ℕ → Bool
row_is_once parts s row =
    list_all (λ column. is_once parts (record { section = s; row = row; column = column })) (range_with_len 0 (side depth))

-- so does each cell of a section
abbrev pub section_is_once : List Part → Section → Bool
section_is_once parts s = list_all (row_is_once parts s) (range_with_len 0 (side depth))

-- so does each cell of a township
abbrev pub township_is_once : List Part → Township → Bool
township_is_once parts t = list_all (section_is_once parts) (sections_of t)

-- how many parts an estate has
abbrev pub parts_in : List Part → Estate → ℕ
parts_in parts estate = count_by (λ part. same_estate part.estate estate) parts

-- so does each cell of the land that is drawn; of the whole plant each estate is one part, so that no parts are none
abbrev pub is_once_on : List Part → Drawn → Bool
is_once_on parts (one_section s) = section_is_once parts s
is_once_on parts (some_townships townships) = list_all (township_is_once parts) townships
is_once_on parts everything = parts_in parts S == 1 && parts_in parts O == 1 && parts_in parts M == 1

-- the shares of a part's owners are a whole
abbrev pub is_whole : List Row → Part → Bool
is_whole rows part = sum_by (λ row. row.share) (owners_of rows part) == whole_units

-- the rows are a sheet: each of their parts is whole, and each cell that is drawn lies once in them
abbrev pub is_sheet : List Row → Bool
is_sheet rows = let parts = parts_of rows in list_all (is_whole rows) parts && is_once_on parts (land_drawn parts)

-- why there is no plat: memory ran out, or the rows aren't a sheet
abbrev pub IsRefusal : List Row → PlatFault → Type 0
IsRefusal rows fault.Memory = Unit {0}
IsRefusal rows fault.NotASheet = is_sheet rows ≡ false
IsRefusal rows fault.NotAReport = ⊥
IsRefusal rows fault.NoSheet = ⊥
