-- The report of a script.
use Rattle.std.specs.Prelude.{ℕ, List, [], ◌++◌, length, Result, Ok, Err}
use Rattle.title_trace.specs.{declared.call.Call.{Call}, Due.{Setting}}
use Rattle.title_plan.specs.{declared.{fault.ScriptFault.{ScriptFault}, line.Schedule.{Schedule}}, Asked.{Asked}, Plans.{script_of}}
use Rattle.title_report.specs.Replies.{end_row}
use Rattle.title_page.specs.Rows.{row, rows_text}
use Rattle.title_script.specs.Served.{due_rows}

-- the desk that a script asks: its parties and its townships
abbrev pub setting_of : Asked → Setting
setting_of asked = record { parties = length asked.names; townships = asked.townships }

-- the report of what a script asks for: the rows of its steps from an empty trace, and the last row, which counts them
abbrev pub report_on : Asked → List ℕ
report_on asked = rows_text (due_rows (setting_of asked) asked.names [] asked.lines) ++ row (end_row (length asked.lines))

-- the report of what a script asks for on top of what stands: the rows of its steps from that trace, and the last row
abbrev pub report_onto : Setting → List Call → Asked → List ℕ
report_onto setting before asked =
    rows_text (due_rows setting asked.names before asked.lines) ++ row (end_row (length asked.lines))

-- the report of what is asked for, or the fault in place of it
abbrev pub report_or_fault : Result Asked ScriptFault → Result (List ℕ) ScriptFault
report_or_fault (Ok asked) = Ok (report_on asked)
report_or_fault (Err e) = Err e

-- the report of a script's bytes, or its first fault
unfoldable pub report_of : Schedule → List ℕ → Result (List ℕ) ScriptFault
report_of sched script = report_or_fault (script_of sched script)
