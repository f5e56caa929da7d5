-- What parts have of the rows, and what a sheet has of its land, said without the recursions that compute it.
use Rattle.std.specs.Prelude.{◌≡◌, ◌≤◌, ◌<◌, ◌&&◌, ℕ, true, false, List, [], ◌∷◌, length, sum_by}
use Rattle.std.specs.{Bool.{Decides}, List.{All, flat_map}}
use Rattle.title_instrument.specs.declared.parts.Estate.{Estate}
use Rattle.title_land.specs.{declared.survey.Section.{Section}, Depth.{depth}, Nodes.{same_node}, CellLists.{sections_of}, Survey.{side}}
use Rattle.title_share.specs.Rows.{whole_units}
use Rattle.title_plat.specs.{declared.{parts.Part.{Part}, row.Row.{Row}}, Parts.{same_estate, is_row_of, owners_of, parts_of}}
use Rattle.title_plat.specs.{Drawn.{Drawn, one_section, some_townships, everything, land_drawn}, Once.{is_once, parts_in, is_sheet}}

-- the row is of the part's node and estate
abbrev pub IsOwner : Part → Row → Type 0
IsOwner part row = is_row_of part.node part.estate row ≡ true

-- the part has rows of the sheet, one at least, and each is of its node and estate
abbrev pub IsPart : List Row → Part → Type 0
IsPart rows part = (part.first < part.end) × (part.end ≤ length rows) × All (IsOwner part) (owners_of rows part)

-- the part that follows, where one does, is of another node or estate
abbrev pub NextIsOther : Part → List Part → Type 0
NextIsOther part [] = Unit {0}
NextIsOther part (next ∷ parts) = (same_node next.node part.node && same_estate next.estate part.estate) ≡ false

-- no part could be longer
abbrev pub AreRuns : List Part → Type 0
AreRuns [] = Unit {0}
AreRuns (part ∷ parts) = NextIsOther part parts × AreRuns parts

-- the parts, one after another, have the sheet's rows, each once and in their order
abbrev pub PartsHaveTheRows : Type 0
PartsHaveTheRows = (rows : List Row)
    → (flat_map (owners_of rows) (parts_of rows) ≡ rows) × All (IsPart rows) (parts_of rows) × AreRuns (parts_of rows)

-- each cell of a section lies in one part of each estate, or in none of any
abbrev pub IsOnceIn : List Part → Section → Type 0
IsOnceIn parts s = (row : ℕ) → row < side depth → (column : ℕ) → column < side depth
    → is_once parts (record { section = s; row = row; column = column }) ≡ true

-- so does each cell of the land that is drawn; of the whole plant each estate is one part
abbrev pub IsOnceOn : List Part → Drawn → Type 0
IsOnceOn parts (one_section s) = IsOnceIn parts s
IsOnceOn parts (some_townships townships) = All (λ t. All (IsOnceIn parts) (sections_of t)) townships
IsOnceOn parts everything = (estate : Estate) → parts_in parts estate ≡ 1

-- the shares of a part's owners are a whole
abbrev pub IsWhole : List Row → Part → Type 0
IsWhole rows part = sum_by (λ row. row.share) (owners_of rows part) ≡ whole_units

-- rows are a sheet exactly where each part is whole, and each cell of the land lies once in the parts
abbrev pub SheetsHaveEachCellOnce : Type 0
SheetsHaveEachCellOnce = (rows : List Row)
    → Decides (is_sheet rows) (All (IsWhole rows) (parts_of rows) × IsOnceOn (parts_of rows) (land_drawn (parts_of rows)))
