-- The due reply to a request after a trace, with no lock and no undo in it. Lists of calls and steps have the newest first.
use Rattle.std.specs.Prelude.{◌≡◌, ◌≢◌, ◌↔◌, ℕ, suc, ◌<◌, ◌≤◌, Bool, true, false, cond, not, ◌&&◌, eqb, nat_le, min}
use Rattle.std.specs.Prelude.{List, [], ◌∷◌, length, map, filter, Option, Some, None}
use Rattle.title_land.specs.{declared.survey.Township.{Township}, Lands.{is_in_plant}}
use Rattle.title_instrument.specs.declared.parts.Cause.{Cause}
use Rattle.title_store.specs.Plants.{IsEachOnce}
use Rattle.title_chain.specs.{declared.ask.Ask.{Ask}, Asks.{tract_of, cause_of}, Alone.{alone, most_parties}, Overlaps.{overlaps}}
use Rattle.title_trace.specs.declared.call.{Call.{Call}, Request.{Request}, Reply.{Reply}}
use Rattle.title_trace.specs.Trace.{examiner_of, is_open, open_steps, committed}
use Rattle.title_trace.specs.declared.call.Request.TheVariants as request
use Rattle.title_trace.specs.declared.call.Reply.TheVariants as reply
use Rattle.title_trace.specs.declared.denial.Denial.TheVariants as denial

-- the most steps that a transaction has
abbrev pub most_steps : ℕ
most_steps = 10000

-- what the desk was opened with: how many parties there are, and the declared townships
pub record Setting : Type 0 where
  pub parties : ℕ
  pub townships : List Township

-- the most townships that a plant has
abbrev pub most_townships : ℕ
most_townships = 64

-- what a desk can be opened with: a party at least and so many at most, so many townships, none of them twice
abbrev pub MayOpen : ℕ → List Township → Type 0
MayOpen parties townships = (1 ≤ parties) × (parties ≤ most_parties) × (length townships ≤ most_townships) × IsEachOnce townships

-- who stands in the way of an examiner's ask: nobody, or the least other examiner with an open step that overlaps it
abbrev pub InTheWay : List Call → ℕ → Ask → Option ℕ → Type 0
InTheWay before e a None = (f : ℕ) → f ≢ e → overlaps a (open_steps before f) ≡ false
InTheWay before e a (Some f) =
    (f ≢ e) × (overlaps a (open_steps before f) ≡ true)
    × ((g : ℕ) → g < f → g ≢ e → overlaps a (open_steps before g) ≡ false)

-- nobody being in the way, the ask is answered as it would be alone, after the committed records and its own open steps
abbrev pub reply_past : ℕ → Setting → List Call → ℕ → Ask → Option ℕ → Reply
reply_past depth setting before e a (Some f) = reply.Denied (denial.Conflict f)
reply_past depth setting before e a None =
    reply.Answered (alone depth setting.townships (committed before) (open_steps before e) a)

-- the due reply to a step, the first line that holds: not open; a township that isn't declared; an instrument that can't
-- stand; as many steps as a transaction may have; an examiner in the way; else the answer that it gets alone
abbrev pub DueStep : ℕ → Setting → List Call → ℕ → Ask → Reply → (begun inside : Bool) → Option Cause → (full : Bool) → Type 0
DueStep depth setting before e a r false inside cause full = r ≡ reply.Denied denial.NotOpen
DueStep depth setting before e a r true false cause full = r ≡ reply.Denied denial.NoSuchTownship
DueStep depth setting before e a r true true (Some cause) full = r ≡ reply.Denied (denial.Invalid cause)
DueStep depth setting before e a r true true None true = r ≡ reply.Denied denial.TooLong
DueStep depth setting before e a r true true None false =
    (way : Option ℕ) × InTheWay before e a way × (r ≡ reply_past depth setting before e a way)

-- the due reply to a request after a trace
abbrev pub DueReply : ℕ → Setting → List Call → Request → Reply → Type 0
DueReply depth setting before (request.Begin e) r = r ≡ cond (is_open e before) (reply.Denied denial.AlreadyOpen) reply.Began
DueReply depth setting before (request.Step e a) r =
    DueStep depth setting before e a r (is_open e before) (is_in_plant setting.townships (tract_of a))
    (cause_of setting.parties a) (nat_le most_steps (length (open_steps before e)))
DueReply depth setting before (request.Commit e) r =
    r ≡ cond (is_open e before) (reply.Committed (suc (length (committed before)))) (reply.Denied denial.NotOpen)
DueReply depth setting before (request.Abort e) r = r ≡ cond (is_open e before) reply.Aborted (reply.Denied denial.NotOpen)

-- a trace is due where each reply is the due reply after the calls before it
abbrev pub IsDue : ℕ → Setting → List Call → Type 0
IsDue depth setting [] = Unit {0}
IsDue depth setting (call ∷ before) =
    IsDue depth setting before × DueReply depth setting before call.request call.reply

-- ---- the due reply as a function

-- the lesser of a number and another, where there is another
abbrev pub lesser : ℕ → Option ℕ → ℕ
lesser n None = n
lesser n (Some m) = min n m

-- the least of numbers, where there are any
abbrev pub least : List ℕ → Option ℕ
least [] = None
least (n ∷ ns) = Some (lesser n (least ns))

-- the examiners of a trace's calls
abbrev pub examiners : List Call → List ℕ
examiners before = map (λ call. examiner_of call.request) before

-- an examiner is another than the asker, and one of its open steps overlaps the ask
abbrev pub stops : List Call → ℕ → Ask → ℕ → Bool
stops before e a f = not (eqb f e) && overlaps a (open_steps before f)

-- who stands in the way of an examiner's ask: the least of the trace's examiners that do
abbrev pub in_the_way : List Call → ℕ → Ask → Option ℕ
in_the_way before e a = least (filter (stops before e a) (examiners before))

-- the due reply to a step, by the same lines as the relation
abbrev pub due_step : ℕ → Setting → List Call → ℕ → Ask → (begun inside : Bool) → Option Cause → (full : Bool) → Reply
due_step depth setting before e a false inside cause full = reply.Denied denial.NotOpen
due_step depth setting before e a true false cause full = reply.Denied denial.NoSuchTownship
due_step depth setting before e a true true (Some cause) full = reply.Denied (denial.Invalid cause)
due_step depth setting before e a true true None true = reply.Denied denial.TooLong
due_step depth setting before e a true true None false = reply_past depth setting before e a (in_the_way before e a)

-- the due reply to a request after a trace
abbrev pub due_reply : ℕ → Setting → List Call → Request → Reply
due_reply depth setting before (request.Begin e) = cond (is_open e before) (reply.Denied denial.AlreadyOpen) reply.Began
due_reply depth setting before (request.Step e a) =
    due_step depth setting before e a (is_open e before) (is_in_plant setting.townships (tract_of a))
    (cause_of setting.parties a) (nat_le most_steps (length (open_steps before e)))
due_reply depth setting before (request.Commit e) =
    cond (is_open e before) (reply.Committed (suc (length (committed before)))) (reply.Denied denial.NotOpen)
due_reply depth setting before (request.Abort e) = cond (is_open e before) reply.Aborted (reply.Denied denial.NotOpen)

-- an examiner, or nobody, stands in the way by the relation exactly where it does by the function
abbrev pub OneInTheWay : Type 0
OneInTheWay = (before : List Call) (e : ℕ) (a : Ask) (way : Option ℕ) → InTheWay before e a way ↔ (way ≡ in_the_way before e a)

-- a reply is due by the relation exactly where it is the one that the function gives
abbrev pub OneDueReply : ℕ → Type 0
OneDueReply depth =
    (setting : Setting) (before : List Call) (q : Request) (r : Reply) →
    DueReply depth setting before q r ↔ (r ≡ due_reply depth setting before q)
