-- A desk's state, and what its parts have to do with each other and with its trace.
use Rattle.std.specs.Prelude.{◌≡◌, ℕ, ◌≤◌, true, false, List, Option, is_some}
use Rattle.title_land.specs.{Depth.{depth}, declared.survey.{Township.{Township}, Cell.{Cell}}}
use Rattle.title_lock.specs.{declared.guards.Entry.{Entry}, Overlaps.{against}}
use Rattle.title_store.specs.{Plants.{Plant}, Loans.{Loan, IsAmong}}
use Rattle.title_chain.specs.{declared.{ask.{Ask.{Ask}, Step.{Step}}, record.Record.{Record}}, Asks.{tract_of, is_post}}
use Rattle.title_chain.specs.{Alone.{after_steps, plant_after, most_parties}, Overlaps.{overlaps}}
use Rattle.title_trace.specs.{declared.call.Call.{Call}, Trace.{is_open, open_steps, committed}, Due.{Setting, IsDue}}
use Rattle.title_desk.specs.{Images.{Backed, IsOf, posted_at}, Opened.{Opened, held}}

-- All that a desk has: what it was opened with and its calls; its records; what each examiner has open; the store's owners, townships
-- and images that are out; the locks. Calls, records, steps and images have the newest first.
pub record State : Type 0 where
  pub setting : Setting
  pub trace : List Call
  pub records : List Record
  pub opened : ℕ → Option Opened
  pub content : Plant
  pub declared : List Township
  pub out : List Loan
  pub locks : List Entry

-- an examiner's steps, and the numbers of its images
abbrev pub own_of : State → ℕ → List Step
own_of s e = (held (s.opened e)).steps

abbrev pub images_of : State → ℕ → List ℕ
images_of s e = (held (s.opened e)).images

-- the plant after the records, and as an examiner sees it, after its own steps too
abbrev pub plant_of : State → Plant
plant_of s = plant_after depth s.declared s.records

abbrev pub plant_for : State → ℕ → Plant
plant_for s e = after_steps depth s.declared (plant_of s) (own_of s e)

-- the store and the locks are where the open transactions and the records leave them: the locks are those of the steps; each
-- examiner's images undo its posts, and nobody else's; in a cell where an examiner's step was posted stands what that examiner
-- sees, in every other cell the plant after the records
pub record Facts (s : State) : Type 0 where
  pub locks_are : (a : Ask) (f : ℕ) → against (tract_of a) (is_post a) f s.locks ≡ overlaps a (own_of s f)
  pub backed : (e : ℕ) → Backed s.out s.declared (plant_of s) (own_of s e) (images_of s e)
  pub numbers : (e f n : ℕ) → IsOf n (images_of s e) → IsOf n (images_of s f) → e ≡ f
  pub owned : (b : Loan) → IsAmong b s.out → (e : ℕ) × IsOf b.number (images_of s e)
  pub posted : (e : ℕ) (c : Cell) → posted_at s.declared c (own_of s e) ≡ true → s.content c ≡ plant_for s e c
  pub rest : (c : Cell) → ((e : ℕ) → posted_at s.declared c (own_of s e) ≡ false) → s.content c ≡ plant_of s c

-- each reply was the due one, and records and open transactions are where the trace leaves them
pub record Keeps (s : State) : Type 0 where
  pub few : s.setting.parties ≤ most_parties
  pub due : IsDue depth s.setting s.trace
  pub declared_are : s.declared ≡ s.setting.townships
  pub records_are : s.records ≡ committed s.trace
  pub begun_are : (e : ℕ) → is_some (s.opened e) ≡ is_open e s.trace
  pub steps_are : (e : ℕ) → own_of s e ≡ open_steps s.trace e
  pub facts : Facts s
