-- What an office comes to that is run on a desk which has served what stood.
use Rattle.std.specs.Prelude.{◌≡◌, ◌<◌, ◌+◌, ◌^◌, ℕ, List, length, map, sum}
use Rattle.title_chain.specs.declared.record.Record.{Record}
use Rattle.title_trace.specs.Trace.{committed}
use Rattle.title_desk.specs.Told.{Books}
use Rattle.title_plan.specs.Asked.{Asked}
use Rattle.title_daybook.specs.declared.writing.Stood.{Stood}
use Rattle.title_day.specs.{declared.tally.Tally.{Tally}, Closings.{closed_text}, DaysOn.{GoesOnFrom, office_text_on}}
use Rattle.title_day.specs.{OfficeRecords.{AreMadeOf, scripts_in}, OfficeReports.{AreTallies}}
use Rattle.title_lasting.specs.{Kept.{text_in}, Made.{IsAddedBlock}}
use Rattle.title_kept_office.specs.declared.making.Made.{Made}

pub record IsRunOn (number : ℕ) (asked : Asked) (desk : Books) (stood : Stood) (made : Made) : Type 0 where
  pub tallies : List Tally
  pub records : List Record
  pub goes_on : GoesOnFrom desk.setting (committed desk.trace) records
  pub many : length tallies ≡ number
  pub tallies_are : AreTallies asked.lines 1 tallies
  pub counted : sum (map (λ t. t.committed) tallies) + length (committed desk.trace) ≡ length records
  pub is_made : AreMadeOf desk.setting (scripts_in asked.lines 1 number) (committed desk.trace) tallies records
  pub report : closed_text made.closing ≡ office_text_on asked tallies stood.records records
  pub block : IsAddedBlock stood asked.townships asked.names records (text_in made.block)
  pub few : length records < 2 ^ 64
