-- What a call of the desk tells.
use Rattle.std.specs.Prelude.{◌≡◌, ℕ, Bool, true, false, nat_le, List, ◌∷◌, length, Option, None}
use Rattle.title_land.specs.{Depth.{depth}, Lands.{is_in_plant}}
use Rattle.title_lock.specs.declared.guards.{Access.{Access}, Entry.{Entry}}
use Rattle.title_lock.specs.declared.guards.Access.TheVariants as access
use Rattle.title_chain.specs.declared.ask.Ask.TheVariants as ask
use Rattle.title_chain.specs.{declared.ask.Ask.{Ask}, Asks.{tract_of, cause_of}}
use Rattle.title_trace.specs.{declared.call.{Call.{Call}, Request.{Request}, Reply.{Reply}}, Trace.{is_open, open_steps}}
use Rattle.title_trace.specs.Due.{Setting, most_steps, InTheWay, DueReply}
use Rattle.title_trace.specs.declared.call.Reply.TheVariants as reply
use Rattle.title_desk.specs.Opened.{IsFirst}

-- a desk as its callers see it: what it was opened with, its trace, the newest call first, and whether it has room for
-- one record more; and the lock that is prepared, if one is
pub record Books : Type 0 where
  pub setting : Setting
  pub trace : List Call
  pub is_ready : Bool
  pub prepared : Option Entry

-- neither the setting nor the trace has changed
abbrev pub Stays : Books → Books → Type 0
Stays old new = (new.setting ≡ old.setting) × (new.trace ≡ old.trace)

-- the call is added to the trace, and its reply is the due one
abbrev pub Added : Books → Request → Reply → Books → Type 0
Added old q r new = (new.setting ≡ old.setting) × (new.trace ≡ record { request = q; reply = r } ∷ old.trace)
    × DueReply depth old.setting old.trace q r

-- a call adds its pair with the due reply, or wants memory and changes nothing
abbrev pub Told : Books → Request → Reply → Books → Type 0
Told old q reply.Memory new = Stays old new
Told old q reply.Began new = Added old q reply.Began new
Told old q (reply.Answered given) new = Added old q (reply.Answered given) new
Told old q (reply.Committed place) new = Added old q (reply.Committed place) new
Told old q reply.Aborted new = Added old q reply.Aborted new
Told old q (reply.Denied why) new = Added old q (reply.Denied why) new

-- what an ask wants of its tract
abbrev pub access_of : Ask → Access
access_of (ask.Sheet t) = access.Read
access_of (ask.Chain t) = access.Read
access_of (ask.Post p) = access.Post

-- the lock of a step
abbrev pub entry_of : ℕ → Ask → Entry
entry_of e a = record { examiner = e; tract = tract_of a; access = access_of a }

-- nothing refuses the step but who may be in the way: the examiner is open, the tract is in the plant, the instrument can stand, and
-- the transaction has room for a step
abbrev pub IsFit : Books → ℕ → Ask → Type 0
IsFit books e a = (is_open e books.trace ≡ true) × (is_in_plant books.setting.townships (tract_of a) ≡ true)
    × (cause_of books.setting.parties a ≡ None) × (nat_le most_steps (length (open_steps books.trace e)) ≡ false)

-- nor is anybody
abbrev pub Passes : Books → ℕ → Ask → Type 0
Passes books e a = IsFit books e a × InTheWay books.trace e a None

-- no examiner is open, or this is the least that is
abbrev pub IsFirstOpen : List Call → Option ℕ → Type 0
IsFirstOpen trace examiner = IsFirst (λ e. is_open e trace) examiner
