-- Sheets that are kept of a plant, and parts of sheets.
use Rattle.std.specs.{Prelude.{◌≡◌, ℕ, Bool, false, not, ◌&&◌, cond, eqb, List, [], ◌∷◌, Option, Some, None}, List.{All, filter}}
use Rattle.std.specs.{Ordering.{nat_cmp}, BTreeMap.{get}}
use Rattle.title_instrument.specs.{declared.parts.{Estate.{Estate}, Estates.{Estates}}, Estates.{names}, Owners.{holding_of}}
use Rattle.title_land.specs.{Depth.{depth}, Lands.{home_of, land_of, meets}, Nodes.{are_related}, NodeNumbers.{node_number}}
use Rattle.title_land.specs.declared.{survey.{Cell.{Cell}, Section.{Section}, Township.{Township}}, rectangle.Quarter.{Quarter}}
use Rattle.title_land.specs.declared.{node.Node.{Node}, tract.Land.{Land}}
use Rattle.title_land.specs.declared.node.Node.TheVariants as node
use Rattle.title_store.specs.{declared.sheet_row.SheetRow.{SheetRow}, Plants.{Plant, is_cell_of}, Sheets.{estate_sheet, sheet_of}}
use Rattle.title_desk.specs.declared.kept_sheets.{Quartered.{Quartered}, Shown.{Shown}, Kept.{Kept}, Home.{Home}, KeptSheets.{KeptSheets}}
use Rattle.title_desk.specs.declared.kept_sheets.Kept.TheVariants as kept

-- the part of a section's quarter's sheet for an estate
abbrev pub quarter_rows : List Township → Plant → Section → Quarter → Estate → List SheetRow
quarter_rows townships content section quarter e = estate_sheet depth townships content (land_of depth (node.Part section (quarter ∷ []))) e

-- its rows are the sheet of its tract
abbrev pub IsShown : List Township → Plant → Shown → Type 0
IsShown townships content shown = shown.rows ≡ sheet_of depth townships content shown.tract

-- it is the part of its tract's sheet for its estate
abbrev pub IsQuarter : List Township → Plant → Quartered → Type 0
IsQuarter townships content quartered = quartered.part ≡ estate_sheet depth townships content quartered.tract quartered.estate

-- the land of what is kept
abbrev pub land_in : Kept → Land
land_in (kept.Sheet shown) = shown.tract
land_in (kept.Quarter quartered) = quartered.tract

-- it is what the plant has of its tract: a sheet, or the part of one for an estate
abbrev pub IsTrue : List Township → Plant → Kept → Type 0
IsTrue townships content (kept.Sheet shown) = IsShown townships content shown
IsTrue townships content (kept.Quarter quartered) = IsQuarter townships content quartered

-- it is kept after a post of some estates in some land: its tract shares no cell with it, or it is of another estate
abbrev pub is_left : Land → Estates → Kept → Bool
is_left land estates (kept.Sheet shown) = not (meets shown.tract land)
is_left land estates (kept.Quarter quartered) = not (names estates quartered.estate && meets quartered.tract land)

-- sheets, and quarters' parts, that are kept
abbrev pub Stock : Type 0
Stock = List Shown × List Quartered

abbrev pub no_stock : Stock
no_stock = ([], [])

-- what is left of them after a post
abbrev pub left_of : Land → Estates → Stock → Stock
left_of land estates stock =
    (filter (λ x. is_left land estates (kept.Sheet x)) stock.0, filter (λ x. is_left land estates (kept.Quarter x)) stock.1)

-- all that is kept of a home
unfoldable pub all_kept : Home → Stock
all_kept home = (home.shown.items, home.quarters.items)

abbrev pub kept_in : Option Home → Stock
kept_in None = no_stock
kept_in (Some home) = all_kept home

-- what stands under a number
abbrev pub kept_under : KeptSheets → ℕ → Stock
kept_under sheets k = kept_in (get nat_cmp sheets.homes k)

-- under this number stands this now, and under each other what stood there before
abbrev pub IsSetUnder : ℕ → Stock → KeptSheets → KeptSheets → Type 0
IsSetUnder k stock old new = (j : ℕ) → kept_under new j ≡ cond (eqb k j) stock (kept_under old j)

-- it is what the plant has of its tract, and this is the number of the tract's home
abbrev pub IsKept : List Township → Plant → ℕ → Kept → Type 0
IsKept townships content k one = IsTrue townships content one × (node_number (home_of (land_in one)) ≡ k)

-- so are all of these
abbrev pub AllKept : List Township → Plant → ℕ → Stock → Type 0
AllKept townships content k stock =
    All (λ x. IsKept townships content k (kept.Sheet x)) stock.0 × All (λ x. IsKept townships content k (kept.Quarter x)) stock.1

-- all that is kept is what the plant has, and stands under the number of its tract's home
pub record AreKept (townships : List Township) (content : Plant) (sheets : KeptSheets) : Type 0 where
  pub each : (k : ℕ) → AllKept townships content k (kept_under sheets k)

-- the owners are the same in each cell outside a land
abbrev pub SameOutside : List Township → Land → Plant → Plant → Type 0
SameOutside townships land old new = (c : Cell) → is_cell_of depth townships land c ≡ false → new c ≡ old c

-- who holds an estate is the same in each cell, if the estate isn't one of these
abbrev pub SameBut : Estates → Plant → Plant → Type 0
SameBut estates old new = (c : Cell) (e : Estate) → names estates e ≡ false → holding_of e (new c) ≡ holding_of e (old c)

-- the new ones are what is left of the old ones after a post of some estates in a land: if the old ones are a plant's, the new ones
-- are so of each plant that is the same outside the land and in the other estates
abbrev pub AreLeft : Land → Estates → KeptSheets → KeptSheets → Type 0
AreLeft land estates old new = (townships : List Township) (before after : Plant) → SameOutside townships land before after
    → SameBut estates before after → AreKept townships before old → AreKept townships after new

-- a post in a land lets nothing go whose home is not the land's own, nor above or below it
abbrev pub OthersStay : Land → KeptSheets → KeptSheets → Type 0
OthersStay land old new =
    (n : Node) → are_related n (home_of land) ≡ false → kept_under new (node_number n) ≡ kept_under old (node_number n)

-- where the land lies in a section, what is kept of the section's tracts stays where they share no cell with it, and parts of other
-- estates stay too
abbrev pub ApartStay : Land → Estates → KeptSheets → KeptSheets → Type 0
ApartStay land estates old new = (s : Section) → home_of land ≡ node.Part s []
    → kept_under new (node_number (node.Part s [])) ≡ left_of land estates (kept_under old (node_number (node.Part s [])))
