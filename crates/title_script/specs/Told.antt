-- What comes of a script's steps, before it is written.
use Rattle.std.specs.{Prelude.{ℕ, List, [], ◌∷◌, ◌++◌, map}, List.{flat_map}, String.{string_bytes}}
use Rattle.title_trace.specs.{declared.call.Call.{Call}, Trace.{examiner_of}, Due.{Setting}}
use Rattle.title_trace.specs.declared.call.Request.TheVariants as request
use Rattle.title_plan.specs.declared.line.Line.{Line}
use Rattle.title_plan.specs.declared.line.Line.TheVariants as line
use Rattle.title_page.specs.Rows.{row, rows_text}
use Rattle.title_report.specs.Replies.{described_row, end_row, reply_rows}
use Rattle.title_script.specs.{declared.told.{Told.{Told}, Served.{Served}}, Served.{after_call, after_line, reply_to}}
use Rattle.title_script.specs.declared.told.Told.TheVariants as told

-- what comes of a step row after a trace: the due reply, of a transaction of its own that of the step; or why the description is none
abbrev pub due_told : Setting → List Call → Line → Told
due_told setting before (line.Asks q) = told.Replied (examiner_of q) (reply_to setting before q)
due_told setting before (line.Alone e a) =
    told.Replied e (reply_to setting (after_call setting before (request.Begin e)) (request.Step e a))
due_told setting before (line.Described e why) = told.Described e why

-- what comes of step rows one after another
abbrev pub all_due_told : Setting → List Call → List Line → List Told
all_due_told setting before [] = []
all_due_told setting before (l ∷ lines) = due_told setting before l ∷ all_due_told setting (after_line setting before l) lines

-- the rows of what came of a step row
abbrev pub told_rows : List (List ℕ) → Told → List (List (List ℕ))
told_rows names (told.Replied e reply) = reply_rows names e reply
told_rows names (told.Described e why) = described_row e why ∷ []

-- the report of a script whose steps have been served
abbrev pub served_text : Served → List ℕ
served_text s = rows_text (flat_map (told_rows (map string_bytes s.plan.parties.keys)) s.told.items) ++ row (end_row s.steps)
