-- A day on a plant's file: a script on top of what stands there. Lists of records and of calls have the newest first.
use Rattle.std.specs.Prelude.{◌≡◌, ◌⊎◌, ℕ, List, map, Ok}
use Rattle.title_land.specs.Depth.{depth}
use Rattle.title_chain.specs.Alone.{IsSerial}
use Rattle.title_trace.specs.{declared.call.Call.{Call}, Trace.{committed}, Due.{Setting}}
use Rattle.title_plan.specs.{declared.line.Schedule.{Schedule}, Asked.{Asked}, Onto.{Before, script_onto}}
use Rattle.title_standing.specs.{Standing.{kept, replayed}, StandingLaws.{widest}}
use Rattle.title_script.specs.{ReportLaws.{after_lines}, Reports.{report_onto}}
use Rattle.title_daybook.specs.{Files.{IsPlant}, Standing.{Standing}}

-- what stood before, and what is asked on top of it
pub record Day : Type 0 where
  pub before : Standing
  pub asked : Asked

-- the desk that serves the day: it has the townships of before and those that join, and room for the most parties, so that parties
-- may come at any time
abbrev pub setting_on : Day → Setting
setting_on d = widest d.asked.townships

-- its trace at the start: the calls that serve once more what stood
abbrev pub morning : Day → List Call
morning d = replayed d.before.records

-- its trace at the end: the script's steps come to it, each with its due reply
abbrev pub evening : Day → List Call
evening d = after_lines (setting_on d) (morning d) d.asked.lines

-- what stands at the end: all that is declared, and what is kept of all that was committed
abbrev pub stands_after : Day → Standing
stands_after d = record { townships = d.asked.townships; names = d.asked.names; records = map kept (committed (evening d)) }

-- the report: that of the script's steps from the morning on
abbrev pub report_on_day : Day → List ℕ
report_on_day d = report_onto (setting_on d) (morning d) d.asked

-- what stands, as a script finds it declared
abbrev pub declared_in : Standing → Before
declared_in s = record { townships = s.townships; names = s.names }

-- the day that a script makes of a plant's file: the file stands for what stood before, the script asks for this on top of it, and
-- what stood is serial where the townships of the script are there too
pub record IsDay (sched : Schedule) (file script : List ℕ) (d : Day) : Type 0 where
  pub stood : IsPlant file d.before
  pub asks : script_onto sched (declared_in d.before) script ≡ Ok d.asked
  pub joined : IsSerial depth d.asked.townships d.before.records

-- what stood before the day, or what stands after it
abbrev pub IsBeforeOrAfter : Day → List ℕ → Type 0
IsBeforeOrAfter d file = IsPlant file d.before ⊎ IsPlant file (stands_after d)
