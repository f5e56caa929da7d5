-- The report of an office's script. Which transactions are committed, and in which order, the threads' timing decides; so a text is a
-- report of the script where serial records stand behind it.
use Rattle.std.specs.Prelude.{◌≡◌, ◌+◌, ◌==◌, ℕ, suc, Bool, false, cond, List, [], ◌∷◌, ◌++◌, length, reverse, map, filter, sum}
use Rattle.title_land.specs.{Depth.{depth}, Lands.{is_in_plant}, declared.survey.Township.{Township}}
use Rattle.title_land.specs.declared.tract.Land.TheVariants as land
use Rattle.title_chain.specs.declared.ask.Ask.TheVariants as ask
use Rattle.title_chain.specs.{declared.record.Record.{Record}, Alone.{alone, IsSerial}}
use Rattle.title_trace.specs.declared.call.Request.TheVariants as request
use Rattle.title_trace.specs.declared.call.Reply.{Reply}
use Rattle.title_trace.specs.declared.call.Reply.TheVariants as reply
use Rattle.title_trace.specs.declared.denial.Denial.TheVariants as denial
use Rattle.title_plan.specs.{declared.line.Line.{Line}, Asked.{Asked}}
use Rattle.title_plan.specs.declared.line.Line.TheVariants as line
use Rattle.title_script.specs.Reports.{setting_of}
use Rattle.title_day.specs.{declared.tally.Tally.{Tally}, OfficeRecords.{AreMadeOf, scripts_in}, Tallies.{settled_row, tally_row}}
use Rattle.title_report.specs.Replies.{reply_rows, end_row}
use Rattle.title_page.specs.Rows.{row, rows_text}

-- the sheet of the whole plant after all records; a plant without townships has none
abbrev pub closing_sheet : List Township → List Record → Reply
closing_sheet townships records =
    cond (is_in_plant townships land.Everything)
    (reply.Answered (alone depth townships (reverse records) [] (ask.Sheet land.Everything))) (reply.Denied denial.NoSuchTownship)

-- the text of a report: the tallies, how many records there are, the closing sheet as a reply to nobody's number, 0, and the number of
-- step rows
abbrev pub closing_text : List Township → (names : List (List ℕ)) → (steps : ℕ) → List Tally → List Record → List ℕ
closing_text townships names steps tallies records =
    rows_text (map tally_row tallies ++ settled_row (length records) ∷ reply_rows names 0 (closing_sheet townships records))
    ++ row (end_row steps)

-- the same for what a script asks for
abbrev pub office_text : Asked → List Tally → List Record → List ℕ
office_text asked tallies records = closing_text asked.townships asked.names (length asked.lines) tallies records

-- a row begins a transaction of this examiner
abbrev pub is_begin_of : ℕ → Line → Bool
is_begin_of e (line.Asks (request.Begin f)) = f == e
is_begin_of e _ = false

-- a tally tells what came of each transaction that its examiner begins
abbrev pub IsTally : List Line → ℕ → Tally → Type 0
IsTally lines e t =
    (t.examiner ≡ e) × (t.committed + t.aborted + t.given_up ≡ length (filter (is_begin_of e) lines))

-- the tallies of the examiners from a number on, in order
abbrev pub AreTallies : List Line → ℕ → List Tally → Type 0
AreTallies lines e [] = Unit {0}
AreTallies lines e (t ∷ rest) = IsTally lines e t × AreTallies lines (suc e) rest

-- a text is a report of an office's script: serial records of transactions that its rows commit stand behind it
pub record IsOfficeReport (number : ℕ) (asked : Asked) (text : List ℕ) : Type 0 where
  pub tallies : List Tally
  pub records : List Record
  pub serial : IsSerial depth asked.townships (reverse records)
  pub many : length tallies ≡ number
  pub tallies_are : AreTallies asked.lines 1 tallies
  pub counted : sum (map (λ t. t.committed) tallies) ≡ length records
  pub made : AreMadeOf (setting_of asked) (scripts_in asked.lines 1 number) [] tallies records
  pub text_is : text ≡ office_text asked tallies records
