-- An office's day on top of records that stood. A list of what stood has the newest record first; the records of a day, and outcomes,
-- have the oldest first.
use Rattle.std.specs.Prelude.{◌≡◌, ◌+◌, ◌-◌, ℕ, List, ◌∷◌, ◌++◌, length, map, reverse, sum}
use Rattle.title_land.specs.{Depth.{depth}, declared.survey.Township.{Township}}
use Rattle.title_chain.specs.{declared.record.Record.{Record}, Alone.{IsSerial}}
use Rattle.title_trace.specs.{declared.call.Call.{Call}, Trace.{committed}, Due.{IsDue, Setting}}
use Rattle.title_turns.specs.{declared.script.Script.{Script}, Dealt.{told_by}}
use Rattle.title_office.specs.{Offices.{opening_seats}, Workers.{examiners_of, seat_examiners}}
use Rattle.title_plan.specs.{declared.line.Line.{Line}, Asked.{Asked}}
use Rattle.title_dealing.specs.Dealing.{AreDealt}
use Rattle.title_report.specs.Replies.{end_row, reply_rows}
use Rattle.title_page.specs.Rows.{row, rows_text}
use Rattle.title_script.specs.Reports.{setting_of}
use Rattle.title_day.specs.{declared.tally.Tally.{Tally}, OfficeDays.{AreTold}, OfficeRecords.{AreMadeOf, scripts_in}}
use Rattle.title_day.specs.{OfficeReports.{AreTallies, closing_sheet}, Tallies.{settled_row, tally_row}}

-- ---- scripts

-- scripts that were dealt to so many examiners fit the seats of an office
abbrev pub SeatsFit : Type 0
SeatsFit =
    (office number : ℕ) (lines : List Line) (scripts : List Script) → length scripts ≡ number → AreDealt lines 1 scripts
    → seat_examiners (opening_seats office number) ≡ examiners_of scripts

-- they have the transactions that rows ask for
abbrev pub DealtAreAsked : Type 0
DealtAreAsked =
    (lines : List Line) (number : ℕ) (scripts : List Script) → length scripts ≡ number → AreDealt lines 1 scripts
    → map told_by scripts ≡ scripts_in lines 1 number

-- what is told of them are the tallies of what was asked for, one for each
abbrev pub ToldAreTallies : Type 0
ToldAreTallies =
    (lines : List Line) (scripts : List Script) (tallies : List Tally) → AreDealt lines 1 scripts → AreTold scripts tallies
    → AreTallies lines 1 tallies × (length tallies ≡ length scripts)

-- ---- the day

-- the records of a day go on from those that stood, and were committed in some due trace
pub record GoesOnFrom (setting : Setting) (stood : List Record) (records : List Record) : Type 0 where
  pub news : List Record
  pub goes_on : reverse records ≡ news ++ stood
  pub serial : IsSerial depth setting.townships (reverse records)
  pub trace : List Call
  pub due : IsDue depth setting trace
  pub committed_are : committed trace ≡ reverse records

-- what an office of so many examiners makes of what is asked for, on top of what stood
pub record IsDayOn (number : ℕ) (asked : Asked) (stood : List Record) (tallies : List Tally) (records : List Record) : Type 0 where
  pub goes_on : (news : List Record) × (reverse records ≡ news ++ stood)
  pub serial : IsSerial depth asked.townships (reverse records)
  pub many : length tallies ≡ number
  pub tallies_are : AreTallies asked.lines 1 tallies
  pub counted : sum (map (λ t. t.committed) tallies) + length stood ≡ length records
  pub made : AreMadeOf (setting_of asked) (scripts_in asked.lines 1 number) stood tallies records

-- the text of its report: so many records stood before, the others are counted, and the closing sheet is of all
abbrev pub closing_text_on : List Township → (names : List (List ℕ)) → (steps : ℕ) → List Tally → (stood : ℕ) → List Record → List ℕ
closing_text_on townships names steps tallies stood records =
    rows_text (map tally_row tallies ++ settled_row (length records - stood) ∷ reply_rows names 0 (closing_sheet townships records))
    ++ row (end_row steps)

-- the same for what is asked for
abbrev pub office_text_on : Asked → List Tally → (stood : ℕ) → List Record → List ℕ
office_text_on asked tallies stood records =
    closing_text_on asked.townships asked.names (length asked.lines) tallies stood records
