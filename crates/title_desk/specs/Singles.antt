-- A transaction of one step, which is begun, asked and ended in one call. Traces have the newest call first.
use Rattle.std.specs.Prelude.{◌≡◌, ℕ, suc, ◌<◌, true, false, List, ◌∷◌, drop, length, Some, None}
use Rattle.title_land.specs.{Depth.{depth}, Lands.{is_in_plant}}
use Rattle.title_chain.specs.{declared.ask.Ask.{Ask}, Asks.{tract_of, cause_of}}
use Rattle.title_trace.specs.declared.{call.{Call.{Call}, Request.{Request}, Reply.{Reply}}, denial.Denial.{Denial}}
use Rattle.title_trace.specs.{Trace.{is_open, committed}, Due.{Setting, IsDue}}
use Rattle.title_trace.specs.declared.call.Request.TheVariants as request
use Rattle.title_trace.specs.declared.call.Reply.TheVariants as reply
use Rattle.title_trace.specs.declared.denial.Denial.TheVariants as denial
use Rattle.title_desk.specs.Told.{Books, Stays}

-- nobody has a transaction open
abbrev pub IsIdle : List Call → Type 0
IsIdle trace = (e : ℕ) → is_open e trace ≡ false

-- how a transaction of one step is ended: committed where its step is answered, else aborted
abbrev pub ending : ℕ → Reply → Request
ending e (reply.Answered given) = request.Commit e
ending e _ = request.Abort e

-- its three calls, which got these replies, after those before it
abbrev pub in_turn : List Call → ℕ → Ask → Reply → Reply → Reply → List Call
in_turn before e a begun told ended =
    record { request = ending e told; reply = ended } ∷ record { request = request.Step e a; reply = told }
    ∷ record { request = request.Begin e; reply = begun } ∷ before

-- the reply to its last call where nobody is open: committed in the next place, or aborted
abbrev pub last_reply : List Call → Reply → Reply
last_reply before (reply.Answered given) = reply.Committed (suc (length (committed before)))
last_reply before _ = reply.Aborted

-- its calls where nobody is open
abbrev pub after_single : List Call → ℕ → Ask → Reply → List Call
after_single before e a r = in_turn before e a reply.Began r (last_reply before r)

-- its calls are added, each with the due reply
abbrev pub AddedSingle : Books → ℕ → Ask → Reply → Books → Type 0
AddedSingle old e a r new =
    (new.setting ≡ old.setting) × (new.trace ≡ after_single old.trace e a r) × IsDue depth old.setting (after_single old.trace e a r)

-- a transaction of one step adds its calls with the due replies, or wants memory and changes nothing
abbrev pub ToldSingle : Books → ℕ → Ask → Reply → Books → Type 0
ToldSingle old e a reply.Memory new = Stays old new
ToldSingle old e a r new = AddedSingle old e a r new

-- whoever is open, its calls are added, each with the due reply
abbrev pub AddedInTurn : Books → ℕ → Ask → Reply → Books → Type 0
AddedInTurn old e a told new =
    (new.setting ≡ old.setting) × (begun : Reply) × (ended : Reply) × (new.trace ≡ in_turn old.trace e a begun told ended)
    × IsDue depth old.setting new.trace

-- one of its calls wants memory, and those before it are added
abbrev pub BrokenOff : Books → ℕ → Ask → Books → Type 0
BrokenOff old e a new = (new.setting ≡ old.setting) × (left : ℕ) × (begun : Reply) × (told : Reply) × (left < 3)
    × (new.trace ≡ drop (suc left) (in_turn old.trace e a begun told reply.Memory))

-- the ask's tract is in the plant, and its instrument can stand
abbrev pub Stands : Setting → Ask → Type 0
Stands setting a = (is_in_plant setting.townships (tract_of a) ≡ true) × (cause_of setting.parties a ≡ None)

-- why a transaction of this one step is refused where nobody is open
abbrev pub Bars : Setting → Ask → Denial → Type 0
Bars setting a denial.NoSuchTownship = is_in_plant setting.townships (tract_of a) ≡ false
Bars setting a (denial.Invalid cause) = (is_in_plant setting.townships (tract_of a) ≡ true) × (cause_of setting.parties a ≡ Some cause)
Bars setting a _ = ⊥
