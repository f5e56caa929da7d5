-- Maps from cells to owners, what is kept of cells, and the images that a map of them lends.
use Rattle.std.specs.{Prelude.{◌≡◌, ℕ, Bool, true, cond, List, [], ◌∷◌, Option, Some, None, is_some, unwrap_or, map}, Ordering.{nat_cmp}}
use Rattle.std.specs.BTreeMap.{BTreeMap, get, is_at}
use Rattle.title_land.specs.{Depth.{depth}, declared.survey.{Township.{Township}, Cell.{Cell}}, CellLists.{same_cell}, Orders.{cell_cmp}}
use Rattle.title_instrument.specs.{declared.{instrument.Instrument.{Instrument}, owners.Owners.{Owners}}, Owners.{opening_owners}}
use Rattle.title_instrument.specs.Effect.{cell_effect}
use Rattle.title_cell_store.specs.{declared.cell_map.CellMap.{CellMap}, declared.kept.Kept.{Kept}, declared.kept.Lent.{Lent}}
use Rattle.title_cell_store.specs.declared.posts.Computed.{Computed}
use Rattle.title_store.specs.{Plants.{Plant, is_cell_of, first_failing, done_or}, Loans.{Loan}}
use Rattle.title_cell_store.specs.declared.posts.Computed.TheVariants as computed

-- what a map has at each cell: a cell that it doesn't hold has the opening owners
abbrev pub content_of : CellMap → Plant
content_of m c = unwrap_or (get cell_cmp m.owners c) opening_owners

-- the map holds the cell
abbrev pub is_there : CellMap → Cell → Bool
is_there m c = is_some (get cell_cmp m.owners c)

-- the second map is the first with these owners written at a cell
abbrev pub IsWritten : CellMap → CellMap → Cell → Owners → Type 0
IsWritten m n k w = (q : Cell) → get cell_cmp n.owners q ≡ cond (is_at (cell_cmp k) q) (Some w) (get cell_cmp m.owners q)

-- the owners that are kept for a cell
abbrev pub kept_at : List Kept → Cell → Option Owners
kept_at [] c = None
kept_at (k ∷ kept) c = cond (same_cell c k.cell) (Some k.owners) (kept_at kept c)

-- the cells for which owners are kept
abbrev pub kept_cells : List Kept → List Cell
kept_cells kept = map (λ k. k.cell) kept

-- what a plant has in these cells
abbrev pub keep_from : Plant → List Cell → List Kept
keep_from p cells = map (λ c. record { cell = c; owners = p c }) cells

-- what was computed before a post: what these cells held, and what they are to hold; or the first of them that refuses
abbrev pub IsComputed : Instrument ℕ → Plant → List Cell → Computed → Type 0
IsComputed i p cells (computed.Done old new) =
    (first_failing i p cells ≡ None) × (old.items ≡ keep_from p cells)
    × (new.items ≡ keep_from (λ c. done_or (p c) (cell_effect i (p c))) cells)
IsComputed i p cells (computed.Refused rule estate cell) =
    first_failing i p cells ≡ Some (record { rule = rule; estate = estate; cell = cell })

-- the loan under a number
abbrev pub loan_of : ℕ × Lent → Loan
loan_of e = record { number = e.0; land = e.1.land; held = λ c. unwrap_or (kept_at e.1.old.items c) opening_owners }

-- the loans under their numbers, in their order
abbrev pub loans_of : List (ℕ × Lent) → List Loan
loans_of entries = map loan_of entries

-- owners are kept for the cell
abbrev pub keeps : List Kept → Cell → Bool
keeps kept c = is_some (kept_at kept c)

-- an image can go back without memory: it keeps owners for the tract's cells and no others, and the map holds those cells
abbrev pub IsBacked : List Township → CellMap → Lent → Type 0
IsBacked townships m l = (c : Cell) →
    (keeps l.old.items c ≡ is_cell_of depth townships l.land c) × (is_cell_of depth townships l.land c ≡ true → is_there m c ≡ true)

-- every image that is out can go back
abbrev pub AreBacked : List Township → CellMap → BTreeMap ℕ Lent → Type 0
AreBacked townships m lent = (n : ℕ) (l : Lent) → get nat_cmp lent n ≡ Some l → IsBacked townships m l
