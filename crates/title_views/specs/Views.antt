-- What is published, and what viewers know of it. Lists of records here have the oldest first.
use Rattle.std.specs.Prelude.{◌≡◌, ◌≤◌, ℕ, zero, suc, ◌-◌, true, false, List, [], ◌∷◌, ◌++◌, take, length, reverse, nat_lt, if◌then◌else◌}
use Rattle.std.specs.Prelude.{Option, None, IfSome, slice_get}
use mathlib.Core.Option.{some}
use mathlib.Core.List.{IsPrefix}
use lib.ListN.{get_elem?}
use Rattle.logbook.specs.Pages.{Book}
use Rattle.title_land.specs.{Depth.{depth}, Lands.{is_in_plant}, declared.{survey.Township.{Township}, tract.Land.{Land}}}
use Rattle.title_store.specs.{declared.sheet_row.SheetRow.{SheetRow}, Plants.{Plant, SameContent}, Loans.{Loan}, Sheets.{sheet_of}}
use Rattle.title_chain.specs.{declared.record.Record.{Record}, Alone.{plant_after}}
use Rattle.title_ledger.specs.Ledgers.{AreSerial, PageState, shown_of}
use Rattle.title_views.specs.declared.{kept.Made.{Made}, unseen.Unseen.{Unseen}}
use Rattle.title_views.specs.declared.unseen.Unseen.TheVariants as unseen

-- the most viewers of an office
abbrev pub most_viewers : ℕ
most_viewers = 64

-- what is published: the records, and the ledger's page at which the last of them was tried
pub record Shown : Type 0 where
  pub records : List Record
  pub page : PageState

-- the records are cut before the place, and the record is put there
abbrev pub placed : Shown → ℕ → Record → PageState → Shown
placed x place r page = record { records = take (place - 1) x.records ++ r ∷ []; page = page }

-- it is of these townships and this ledger: what its page shows, and serial
abbrev pub IsOf : List Township → Book → Shown → Type 0
IsOf townships book x = (x.page.book ≡ book) × (shown_of x.page.log ≡ x.records) × AreSerial townships x.records

-- what is published begins with all that each view has seen
abbrev pub Grows : List Township → Book → Shown → List (List Record) → Type 0
Grows townships book x views =
    IsOf townships book x × ((seat : ℕ) (v : List Record) → get_elem? views seat ≡ some v → IsPrefix v x.records)

-- a view afterwards is what is published, which begins with what the view was
abbrev pub SeesAll : List Township → Book → List Record → Shown → Shown → List Record → Type 0
SeesAll townships book v x y w = (w ≡ y.records) × IsPrefix v y.records × IsOf townships book y

-- a receipt: its office's number, and the records that were committed
pub record Shows : Type 0 where
  pub number : ℕ
  pub front : List Record

-- a viewer: its office's number, the records that it has seen, and those that it has learnt of
pub record Sight : Type 0 where
  pub number : ℕ
  pub seen : List Record
  pub told : List Record

-- the longer of two lists of records, the first where they are as long
abbrev pub longer : List Record → List Record → List Record
longer a b = if nat_lt (length a) (length b) then b else a

-- the sheet of a tract after these records
abbrev pub sheet_after : List Township → List Record → Land → List SheetRow
sheet_after townships front land = sheet_of depth townships (plant_after depth townships (reverse front)) land

-- the record at a place, from 1
abbrev pub record_at : List Record → ℕ → Option Record
record_at front zero = None
record_at front (suc n) = slice_get front n

-- a plant with no image out was made of the first so many of these records
abbrev pub IsMade : List Township → List Record → ℕ → Plant → List Township → List Loan → Type 0
IsMade townships records count content declared out =
    (count ≤ length records) × SameContent (plant_after depth townships (reverse (take count records))) content
    × (declared ≡ townships) × (out ≡ [])

-- the rows are the sheet of a tract in this plant, and the tract's townships are declared
abbrev pub IsSheetIn : List Township → Plant → Land → List SheetRow → Type 0
IsSheetIn declared content land rows = (rows ≡ sheet_of depth declared content land) × (is_in_plant declared land ≡ true)

-- what a viewer keeps: a plant made of the first so many of these records, and no sheet, or one in that very plant
abbrev pub IsKept : List Township → List Record → ℕ → Plant → List Township → List Loan → Option Made → Type 0
IsKept townships records count content declared out made =
    IsMade townships records count content declared out × IfSome made (λ m. IsSheetIn declared content m.land m.rows)

-- what a viewer may be shown: serial records that begin with all that it has seen and with all that it has learnt of
abbrev pub Follows : List Township → Sight → List Record → Type 0
Follows townships sight front = AreSerial townships front × IsPrefix sight.seen front × IsPrefix sight.told front

-- a viewer is shown the sheet of a tract after so many records, and has then seen them
abbrev pub ShowsSheet : List Township → Sight → Land → ℕ → List SheetRow → Sight → Type 0
ShowsSheet townships old land count rows new =
    (front : List Record) × Follows townships old front × (length front ≡ count) × (rows ≡ sheet_after townships front land)
    × (new ≡ record old { seen = front }) × (is_in_plant townships land ≡ true)

-- a viewer is shown the record at a place, and has then seen the records among which it stands
abbrev pub ShowsRecord : List Township → Sight → ℕ → Option Record → Sight → Type 0
ShowsRecord townships old place rec new =
    (front : List Record) × Follows townships old front × (rec ≡ record_at front place) × (new ≡ record old { seen = front })

-- why a sheet isn't shown
abbrev pub IsUnseen : List Township → Land → Unseen → Type 0
IsUnseen townships land unseen.Stranger = ⊥
IsUnseen townships land unseen.Closed = Unit {0}
IsUnseen townships land unseen.NoSuchTownship = is_in_plant townships land ≡ false
IsUnseen townships land unseen.Memory = is_in_plant townships land ≡ true

-- why a record isn't shown
abbrev pub IsNoRecord : Unseen → Type 0
IsNoRecord unseen.Stranger = ⊥
IsNoRecord unseen.Closed = Unit {0}
IsNoRecord unseen.NoSuchTownship = ⊥
IsNoRecord unseen.Memory = Unit {0}
