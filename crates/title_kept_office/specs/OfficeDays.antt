-- A day of an office on a plant's file. A list of what stands has the newest record first; the records of a day have the oldest first.
use Rattle.std.specs.Prelude.{◌≡◌, ◌⊎◌, Bool, ℕ, List, Option, Ok, length, map, reverse}
use Rattle.title_land.specs.Depth.{depth}
use Rattle.title_chain.specs.{declared.record.Record.{Record}, Alone.{IsSerial}}
use Rattle.title_plan.specs.{Asked.{Asked}, Onto.{script_onto}}
use Rattle.title_plan.specs.declared.line.Schedule.TheVariants as schedule
use Rattle.title_standing.specs.Standing.{kept}
use Rattle.title_daybook.specs.{Files.{IsPlant}, Standing.{Standing}}
use Rattle.title_day.specs.{declared.tally.Tally.{Tally}, Closings.{closed_text}, DaysOn.{IsDayOn, office_text_on}}
use Rattle.title_lasting.specs.{Days.{declared_in}, Footings.{stands_on}, Kept.{text_in}, Lastings.{IsExpected, IsLeft}}
use Rattle.title_lasting.specs.Made.{IsAsked, IsNew, IsUnmade}
use Rattle.title_lasting.specs.declared.fault.LastingFault.TheVariants as fault
use Rattle.title_kept_office.specs.declared.fault.KeptOfficeFault.{KeptOfficeFault, TheVariants.{Kept, Worker, Unsettled}}
use Rattle.title_kept_office.specs.declared.making.Made.{Made}

-- what stood before, what is asked for on top of it, the tallies of the examiners, and the records, of which those that stood come first
pub record OfficeDay : Type 0 where
  pub before : Standing
  pub asked : Asked
  pub tallies : List Tally
  pub records : List Record

-- what stands after it
abbrev pub stands_after : OfficeDay → Standing
stands_after d = stands_on d.asked d.records

-- its report: its own commits are counted, and the closing sheet is of all that stands
abbrev pub report_of : OfficeDay → List ℕ
report_of d = office_text_on d.asked d.tallies (length d.before.records) d.records

-- the day that the script of an office of so many examiners makes of a plant's file
pub record IsOfficeDay (number : ℕ) (file script : List ℕ) (d : OfficeDay) : Type 0 where
  pub stood : IsPlant file d.before
  pub asks : script_onto (schedule.Office number) (declared_in d.before) script ≡ Ok d.asked
  pub joined : IsSerial depth d.asked.townships d.before.records
  pub is_day : IsDayOn number d.asked d.before.records d.tallies d.records

-- it was served: the source had its script, and the last place was the expected one
pub record IsOfficeServed (number : ℕ) (after : Option ℕ) (file : List ℕ) (left : Option (List ℕ)) (d : OfficeDay) : Type 0 where
  pub script : List ℕ
  pub read : IsLeft left script
  pub is_day : IsOfficeDay number file script d
  pub expected : IsExpected after d.before

-- what stood before the day, or what stands after it
abbrev pub IsEither : OfficeDay → List ℕ → Type 0
IsEither d file = IsPlant file d.before ⊎ IsPlant file (stands_after d)

-- ---- a day that is made, and not yet written

pub record IsOfficeMade (number : ℕ) (before : Standing) (left : Option (List ℕ)) (made : Made) : Type 0 where
  pub asked : Asked
  pub is_asked : IsAsked (schedule.Office number) (declared_in before) left asked
  pub joined : IsSerial depth asked.townships before.records
  pub tallies : List Tally
  pub records : List Record
  pub is_day : IsDayOn number asked before.records tallies records
  pub report : closed_text made.closing ≡ office_text_on asked tallies (length before.records) records
  pub is_new : IsNew (text_in made.block) before (stands_on asked records)
  pub serial : IsSerial depth asked.townships (map kept (reverse records))

-- the script can be served on top of what stood
pub record CanServe (number : ℕ) (before : Standing) (left : Option (List ℕ)) : Type 0 where
  pub asked : Asked
  pub is_asked : IsAsked (schedule.Office number) (declared_in before) left asked
  pub joined : IsSerial depth asked.townships before.records

-- the faults of an office that has been opened: want of memory, a worker's fault, or that it can't be settled
abbrev pub IsOwnTrouble : KeptOfficeFault → Type 0
IsOwnTrouble (Kept fault.Memory) = Unit {0}
IsOwnTrouble (Kept _) = ⊥
IsOwnTrouble (Worker why) = Unit {0}
IsOwnTrouble (Unsettled why) = Unit {0}

-- why no day is made of what stood
abbrev pub IsOfficeUnmade : (number : ℕ) → Standing → (left : Option (List ℕ)) → (source_failed : Bool) → KeptOfficeFault → Type 0
IsOfficeUnmade number before left source_failed (Kept e) = IsUnmade (schedule.Office number) before left source_failed e
IsOfficeUnmade number before left source_failed (Worker why) = CanServe number before left
IsOfficeUnmade number before left source_failed (Unsettled why) = CanServe number before left
