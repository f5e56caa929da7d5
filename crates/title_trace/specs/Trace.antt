-- Traces: who is open, with which steps, and what is committed. Lists of calls, steps and records here have the newest first.
use Rattle.std.specs.Prelude.{ℕ, Bool, true, false, cond, eqb, List, [], ◌∷◌}
use Rattle.title_chain.specs.{declared.{ask.{Answer.{Answer}, Step.{Step}}, record.Record.{Record}}, Overlaps.{record_of}}
use Rattle.title_trace.specs.declared.call.{Call.{Call}, Request.{Request}, Reply.{Reply}}
use Rattle.title_trace.specs.declared.call.Request.TheVariants as request
use Rattle.title_trace.specs.declared.call.Reply.TheVariants as reply

abbrev pub examiner_of : Request → ℕ
examiner_of (request.Begin e) = e
examiner_of (request.Step e a) = e
examiner_of (request.Commit e) = e
examiner_of (request.Abort e) = e

-- whether an examiner is open after a call: its last reply among Began, Committed and Aborted is Began; `mine` says that
-- the call is this examiner's
abbrev pub open_by : Bool → Reply → Bool → Bool
open_by mine reply.Began was = cond mine true was
open_by mine (reply.Committed place) was = cond mine false was
open_by mine reply.Aborted was = cond mine false was
open_by mine (reply.Answered answer) was = was
open_by mine (reply.Denied why) was = was
open_by mine reply.Memory was = was

abbrev pub is_open : ℕ → List Call → Bool
is_open e [] = false
is_open e (call ∷ before) = open_by (eqb e (examiner_of call.request)) call.reply (is_open e before)

-- a step that is answered comes to the open steps
abbrev pub step_of : Request → Answer → List Step → List Step
step_of (request.Step e a) given own = record { ask = a; answer = given } ∷ own
step_of (request.Begin e) given own = own
step_of (request.Commit e) given own = own
step_of (request.Abort e) given own = own

abbrev pub steps_by : Bool → Request → Reply → List Step → List Step
steps_by mine q reply.Began own = cond mine [] own
steps_by mine q (reply.Committed place) own = cond mine [] own
steps_by mine q reply.Aborted own = cond mine [] own
steps_by mine q (reply.Answered given) own = cond mine (step_of q given own) own
steps_by mine q (reply.Denied why) own = own
steps_by mine q reply.Memory own = own

-- the open steps of an examiner: the asks since its last Began that were answered, with their answers
abbrev pub open_steps : List Call → ℕ → List Step
open_steps [] e = []
open_steps (call ∷ before) e = steps_by (eqb e (examiner_of call.request)) call.request call.reply (open_steps before e)

abbrev pub committed_by : Reply → Record → List Record → List Record
committed_by (reply.Committed place) r records = r ∷ records
committed_by reply.Began r records = records
committed_by reply.Aborted r records = records
committed_by (reply.Answered given) r records = records
committed_by (reply.Denied why) r records = records
committed_by reply.Memory r records = records

-- the committed records: for each reply Committed the record of that examiner's open steps just before it
abbrev pub committed : List Call → List Record
committed [] = []
committed (call ∷ before) =
    committed_by call.reply (record_of (examiner_of call.request) (open_steps before (examiner_of call.request))) (committed before)
