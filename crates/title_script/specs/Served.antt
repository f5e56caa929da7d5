-- The rows of a report: those of the due replies to a script's steps. Traces have the newest call first.
use Rattle.std.specs.Prelude.{ℕ, List, [], ◌∷◌, ◌++◌}
use Rattle.title_land.specs.Depth.{depth}
use Rattle.title_chain.specs.declared.ask.Ask.{Ask}
use Rattle.title_trace.specs.{declared.call.{Call.{Call}, Request.{Request}, Reply.{Reply}}, Trace.{examiner_of}, Due.{Setting, due_reply}}
use Rattle.title_trace.specs.declared.call.Request.TheVariants as request
use Rattle.title_trace.specs.declared.call.Reply.TheVariants as reply
use Rattle.title_desk.specs.Singles.{ending}
use Rattle.title_plan.specs.declared.line.Line.{Line}
use Rattle.title_plan.specs.declared.line.Line.TheVariants as line
use Rattle.title_report.specs.Replies.{reply_rows, described_row}

-- the due reply to a request after a trace
unfoldable pub reply_to : Setting → List Call → Request → Reply
reply_to setting before q = due_reply depth setting before q

-- the trace after a request: the call with its due reply comes to it
unfoldable pub after_call : Setting → List Call → Request → List Call
after_call setting before q = record { request = q; reply = reply_to setting before q } ∷ before

-- the trace after an examiner's ask as a transaction of its own: begun, asked, and ended at once
abbrev pub after_alone : Setting → List Call → ℕ → Ask → List Call
after_alone setting before e a =
    let begun = after_call setting before (request.Begin e) in
    let told = reply_to setting begun (request.Step e a) in
    after_call setting (after_call setting begun (request.Step e a)) (ending e told)

-- the trace after a step row; the desk is not asked where a description is none
abbrev pub after_line : Setting → List Call → Line → List Call
after_line setting before (line.Asks q) = after_call setting before q
after_line setting before (line.Alone e a) = after_alone setting before e a
after_line setting before (line.Described e why) = before

-- the rows of a step row: of a transaction of its own those of the step alone
abbrev pub line_rows : Setting → List (List ℕ) → List Call → Line → List (List (List ℕ))
line_rows setting names before (line.Asks q) = reply_rows names (examiner_of q) (reply_to setting before q)
line_rows setting names before (line.Alone e a) =
    reply_rows names e (reply_to setting (after_call setting before (request.Begin e)) (request.Step e a))
line_rows setting names before (line.Described e why) = described_row e why ∷ []

-- the rows of step rows one after another
abbrev pub due_rows : Setting → List (List ℕ) → List Call → List Line → List (List (List ℕ))
due_rows setting names before [] = []
due_rows setting names before (l ∷ lines) =
    line_rows setting names before l ++ due_rows setting names (after_line setting before l) lines
