-- What a reply of the desk tells, by which of them it is.
use Rattle.std.proofs.Common.{◌≡◌, ℕ, suc, Bool, true, false, List, ◌∷◌, Option, Some, None, sym, ap, ◌∙◌, subst, length}
use Rattle.std.proofs.lemmas.Bool.{cond_both}
use Rattle.title_land.specs.Depth.{depth}
use Rattle.title_instrument.specs.declared.parts.Cause.{Cause}
use Rattle.title_chain.specs.declared.ask.{Ask.{Ask}, Answer.{Answer}}
use Rattle.title_trace.specs.declared.{call.{Call.{Call}, Request.{Request}, Reply.{Reply}}, denial.Denial.{Denial}}
use Rattle.title_trace.specs.{Trace.{is_open, committed}, Due.{Setting, DueReply, DueStep, IsDue, reply_past}}
use Rattle.title_trace.specs.declared.call.Request.TheVariants as request
use Rattle.title_trace.specs.declared.call.Reply.TheVariants as reply
use Rattle.title_trace.specs.declared.denial.Denial.TheVariants as denial
use Rattle.title_office.specs.{declared.fault.Fault.{Fault}, Offices.{IsLast, IsServed, IsRefused, IsToStep, refusal_of}}
use Rattle.title_office.specs.declared.fault.Fault.TheVariants as fault

-- a request that nothing refuses was added to the trace, with the due reply
pub added : (setting : Setting) (before after : List Call) (q : Request) (r : Reply) → IsServed setting before q r after
    → refusal_of r ≡ None → (after ≡ record { request = q; reply = r } ∷ before) × DueReply depth setting before q r
added setting before after q reply.Began served none = served
added setting before after q (reply.Answered given) served none = served
added setting before after q (reply.Committed place) served none = served
added setting before after q reply.Aborted served none = served
added setting before after q (reply.Denied why) served none = served
added setting before after q reply.Memory served none = absurd (cc none)

-- an answer was added to the trace
pub answered : (setting : Setting) (before after : List Call) (q : Request) (r : Reply) (given : Answer) → IsServed setting before q r after
    → r ≡ reply.Answered given
    → (after ≡ record { request = q; reply = reply.Answered given } ∷ before) × DueReply depth setting before q (reply.Answered given)
answered setting before after q r given served is = subst (λ s. IsServed setting before q s after) is served

-- what is told of a denial that was due
denied : (setting : Setting) (before : List Call) (Holds : List Call → Type 0) (q : Request) (why : Denial)
    → IsLast setting before q (reply.Denied why) → Holds before → IsRefused setting Holds q (fault.Denied why)
denied setting before Holds q denial.NotOpen last holds = (before, last)
denied setting before Holds q _ last holds = (before, last, holds)

-- what is told of a refused request
pub refused : (setting : Setting) (before after : List Call) (Holds : List Call → Type 0) (q : Request) (r : Reply) (why : Fault)
    → IsDue depth setting before → IsServed setting before q r after → Holds before → refusal_of r ≡ Some why
    → IsRefused setting Holds q why
refused setting before after Holds q (reply.Denied d) why due served holds is =
    let same : fault.Denied d ≡ why = cc is in
    subst (IsRefused setting Holds q) same (denied setting before Holds q d (due, served.1) holds)
refused setting before after Holds q reply.Memory why due served holds is =
    let same : fault.Memory ≡ why = cc is in subst (IsRefused setting Holds q) same tt
refused setting before after Holds q reply.Began why due served holds is = absurd (cc is)
refused setting before after Holds q (reply.Answered given) why due served holds is = absurd (cc is)
refused setting before after Holds q (reply.Committed place) why due served holds is = absurd (cc is)
refused setting before after Holds q reply.Aborted why due served holds is = absurd (cc is)

-- what is told where only the trace was known
pub refused_there : (setting : Setting) (before : List Call) (Holds : List Call → Type 0) (q : Request) (why : Fault)
    → IsRefused setting (λ b. b ≡ before) q why → Holds before → IsRefused setting Holds q why
refused_there setting before Holds q (fault.Denied denial.NotOpen) told holds = told
refused_there setting before Holds q (fault.Denied _) told holds = (told.0, told.1, subst Holds (sym told.2) holds)
refused_there setting before Holds q fault.Memory told holds = told
refused_there setting before Holds q fault.Stranger told holds = told
refused_there setting before Holds q fault.NoThread told holds = told

-- ---- which reply it is where nothing refuses

past_to_step : (setting : Setting) (before : List Call) (e : ℕ) (a : Ask) (way : Option ℕ)
    → IsToStep (reply_past depth setting before e a way)
past_to_step setting before e a None = tt
past_to_step setting before e a (Some f) = tt

pub due_to_step : (setting : Setting) (before : List Call) (e : ℕ) (a : Ask) (r : Reply) (begun inside : Bool) (cause : Option Cause)
    (full : Bool) → DueStep depth setting before e a r begun inside cause full → IsToStep r
due_to_step setting before e a r false inside cause full due = subst IsToStep (sym due) tt
due_to_step setting before e a r true false cause full due = subst IsToStep (sym due) tt
due_to_step setting before e a r true true (Some cause) full due = subst IsToStep (sym due) tt
due_to_step setting before e a r true true None true due = subst IsToStep (sym due) tt
due_to_step setting before e a r true true None false due = subst IsToStep (sym due.2) (past_to_step setting before e a due.0)

-- a step is replied to as a step
pub to_step : (setting : Setting) (before after : List Call) (e : ℕ) (a : Ask) (r : Reply)
    → IsServed setting before (request.Step e a) r after → IsToStep r
to_step setting before after e a reply.Began served = due_to_step setting before e a _ _ _ _ _ served.1
to_step setting before after e a (reply.Committed place) served = due_to_step setting before e a _ _ _ _ _ served.1
to_step setting before after e a reply.Aborted served = due_to_step setting before e a _ _ _ _ _ served.1
to_step setting before after e a (reply.Answered given) served = tt
to_step setting before after e a (reply.Denied why) served = tt
to_step setting before after e a reply.Memory served = tt

-- the reply to a Begin that nothing refuses
pub began : (setting : Setting) (before : List Call) (e : ℕ) (r : Reply) → DueReply depth setting before (request.Begin e) r
    → refusal_of r ≡ None → r ≡ reply.Began
began setting before e r due none =
    cond_both (is_open e before) (reply.Denied denial.AlreadyOpen) reply.Began (λ s. r ≡ s → r ≡ reply.Began)
    (λ _ is. absurd (cc (sym none ∙ ap refusal_of is))) (λ _ is. is) due

-- the reply to a Commit that nothing refuses
pub committed_at : (setting : Setting) (before : List Call) (e : ℕ) (r : Reply) → DueReply depth setting before (request.Commit e) r
    → refusal_of r ≡ None → r ≡ reply.Committed (suc (length (committed before)))
committed_at setting before e r due none =
    cond_both (is_open e before) (reply.Committed (suc (length (committed before)))) (reply.Denied denial.NotOpen)
    (λ s. r ≡ s → r ≡ reply.Committed (suc (length (committed before))))
    (λ _ is. is) (λ _ is. absurd (cc (sym none ∙ ap refusal_of is))) due
