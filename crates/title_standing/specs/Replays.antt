-- What serving records again makes of a trace. Traces have the newest call first.
use Rattle.std.specs.Prelude.{◌≡◌, ◌≤◌, ◌-◌, ℕ, suc, Bool, true, false, List, ◌∷◌, ◌++◌, length, reverse, take, Option, Some, None}
use Rattle.title_land.specs.Depth.{depth}
use Rattle.title_chain.specs.declared.record.Record.{Record}
use Rattle.title_trace.specs.{declared.call.Call.{Call}, Trace.{committed}, Due.{Setting, IsDue}}
use Rattle.title_trace.specs.declared.call.Request.TheVariants as request
use Rattle.title_trace.specs.declared.call.Reply.TheVariants as reply
use Rattle.title_standing.specs.Standing.{asked_by, replayed}

-- the trace after an examiner has begun
abbrev pub begun : ℕ → List Call → List Call
begun e before = record { request = request.Begin e; reply = reply.Began } ∷ before

-- the trace after it has committed, in the next place
abbrev pub ended : ℕ → List Call → List Call
ended e before = record { request = request.Commit e; reply = reply.Committed (suc (length (committed before))) } ∷ before

-- the trace after a record is served: begun, asked for its steps, and committed
abbrev pub after_record : List Call → Record → List Call
after_record before r = ended r.examiner (asked_by r.examiner (reverse r.steps) (begun r.examiner before))

-- a trace goes on from another
abbrev pub GoesOn : List Call → List Call → Type 0
GoesOn before after = (more : List Call) × (after ≡ more ++ before)

-- calls are served: the trace is the one that they make; or they aren't all due, and the trace goes on from what stood before them
abbrev pub Serves : Setting → (before made after : List Call) → Bool → Type 0
Serves setting before made after true = after ≡ made
Serves setting before made after false = GoesOn before after × (IsDue depth setting made → ⊥)

-- what a replay of records, the oldest first, tells by its trace. None: the trace is that of the calls that serve them all. A place,
-- from 1: the trace goes on from the calls that serve those in front of it, and the calls that serve these and the one in this place
-- aren't all due, since one of its posts isn't posted
abbrev pub ToldReplay : Setting → List Record → Option ℕ → List Call → Type 0
ToldReplay setting records None trace = trace ≡ replayed (reverse records)
ToldReplay setting records (Some place) trace =
    (1 ≤ place) × (place ≤ length records)
    × GoesOn (replayed (reverse (take (place - 1) records))) trace
    × (IsDue depth setting (replayed (reverse (take place records))) → ⊥)
