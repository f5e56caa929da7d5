-- The ledger: a list of entries that only grows. Lists of entries and of records here have the oldest first.
use Rattle.std.specs.Prelude.{◌≡◌, ℕ, ◌==◌, true, List, [], ◌∷◌, ◌++◌, length, fold, reverse, ◌⊎◌, MatchBool}
use Rattle.logbook.specs.Pages.{Cell, Step, View, Book, Named}
use Rattle.title_land.specs.{Depth.{depth}, declared.survey.Township.{Township}}
use Rattle.title_chain.specs.{declared.record.Record.{Record}, Alone.{IsSerial}}
use Rattle.title_ledger.specs.declared.entry.Entry.{Entry}
use Rattle.title_ledger.specs.declared.entry.Entry.TheVariants as entry

-- the records, in the order of their commits, are serial
abbrev pub AreSerial : List Township → List Record → Type 0
AreSerial townships records = IsSerial depth townships (reverse records)

-- the records after an entry, those that are committed and those that are shown: a record that is tried is shown behind the
-- committed ones, and what is shown is committed
abbrev pub next_lists : List Record × List Record → Entry → List Record × List Record
next_lists lists (entry.Tried r) = (lists.0, lists.0 ++ r ∷ [])
next_lists lists entry.Committed = (lists.1, lists.1)

-- before the first entry there are none
abbrev pub no_lists : List Record × List Record
no_lists = ([], [])

-- the records after these entries
unfoldable pub lists_of : List Entry → List Record × List Record
lists_of log = fold next_lists no_lists log

-- the records that are committed
abbrev pub sure_of : List Entry → List Record
sure_of log = (lists_of log).0

-- the records that are shown: the committed ones, with the one that is tried
abbrev pub shown_of : List Entry → List Record
shown_of log = (lists_of log).1

-- nothing was tried since the last commit
abbrev pub IsSettled : List Entry → Type 0
IsSettled log = (log ≡ []) ⊎ ((before : List Entry) × (log ≡ before ++ entry.Committed ∷ []))

-- a page: which ledger's it is, and its entries
pub record PageState : Type 0 where
  pub book : Book
  pub log : List Entry

-- the page with an entry more
abbrev pub with_entry : PageState → Entry → PageState
with_entry page e = record page { log = page.log ++ e ∷ [] }

-- ---- the book behind the ledger

-- its first word counts the entries; a book has two words, and this one leaves the second at 0
abbrev pub IsKept : {E : Type 0} → List Cell → List E → Type 0
IsKept cells log = cells ≡ (length log, true) ∷ (0, true) ∷ []

-- its first word
abbrev pub head_of : Book → Named
head_of b = record { tracked = true; key = 0; book = b }

-- a step adds the entry to all that was seen where it finds the number that it expects, and else nothing is told
abbrev pub Adds : {E : Type 0} → Step E → View E ℕ → ℕ → View E ℕ → Type 0
Adds s v found w = MatchBool (found == s.old) (w.0 ≡ v.0 ++ s.ask ∷ []) (Unit {0})
