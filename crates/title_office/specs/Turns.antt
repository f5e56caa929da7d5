-- What comes of the transactions of a worker.
use Rattle.std.specs.Prelude.{◌≡◌, ◌<◌, ◌≤◌, ◌+◌, ◌∷◌, ◌++◌, ℕ, false, List, [], map, Option, None, IfSome, IsSome}
use Rattle.title_chain.specs.declared.ask.Ask.{Ask}
use Rattle.title_trace.specs.Due.{Setting}
use Rattle.title_trace.specs.declared.denial.Denial.TheVariants as denial
use Rattle.title_settle.specs.declared.outcome.Outcome.{Outcome}
use Rattle.title_turns.specs.{declared.script.Script.{Script}, Dealt.{Dealt, dealt_in}}
use Rattle.title_office.specs.declared.{fault.Fault.{Fault}, workers.{came.Came.{Came}, Worked.{Worked}}}
use Rattle.title_office.specs.{Offices.{SeatState, SlipState}, Workers.{Ended, IsCounted}}
use Rattle.title_office.specs.Transactions.{IsOutcomeOf, AreOutcomesOf, IsRunOf, asks_of, served_asks}
use Rattle.title_office.specs.declared.fault.Fault.TheVariants as fault
use Rattle.title_office.specs.declared.workers.came.Came.TheVariants as came

-- the faults that end a worker: after any other the transaction is begun again, or the step is passed over
abbrev pub EndsWorker : Fault → Type 0
EndsWorker (fault.Denied denial.NoSuchTownship) = ⊥
EndsWorker (fault.Denied (denial.Invalid cause)) = ⊥
EndsWorker (fault.Denied denial.TooLong) = ⊥
EndsWorker (fault.Denied (denial.Conflict f)) = ⊥
EndsWorker why = Unit {0}

-- the faults that end a try of a transaction: those that end the worker, and Conflict
abbrev pub EndsTry : Fault → Type 0
EndsTry (fault.Denied (denial.Conflict f)) = Unit {0}
EndsTry why = EndsWorker why

-- the faults of a step that is passed over
abbrev pub IsPassedOver : Fault → Type 0
IsPassedOver (fault.Denied denial.NoSuchTownship) = Unit {0}
IsPassedOver (fault.Denied (denial.Invalid cause)) = Unit {0}
IsPassedOver (fault.Denied denial.TooLong) = Unit {0}
IsPassedOver why = ⊥

-- a seat later on: its examiner's still, it has seen no fewer records
abbrev pub IsLater : SeatState → SeatState → Type 0
IsLater seat after = (after.examiner ≡ seat.examiner) × (seat.seen ≤ after.seen)

-- a slip that is begun from a seat: it has no step
abbrev pub IsBegun : SeatState → SlipState → Type 0
IsBegun seat slip = IsLater seat slip.seat × (slip.rec ≡ record { examiner = seat.examiner; steps = [] })

-- a slip later on
abbrev pub GoesOn : SlipState → SlipState → Type 0
GoesOn slip after = IsLater slip.seat after.seat × (after.rec.examiner ≡ slip.rec.examiner)

-- one ask more has been made: if a slip's steps were what is served of some asks, then now of these and it
pub record HasAsked (setting : Setting) (slip : SlipState) (a : Ask) (after : SlipState) : Type 0 where
  pub more : (done : List Ask) → asks_of slip.rec ≡ served_asks setting done → asks_of after.rec ≡ served_asks setting (done ++ a ∷ [])

-- a slip's record is committed at a place above what its seat had seen, which it has seen since
abbrev pub IsCommitOf : SlipState → Came → SeatState → Type 0
IsCommitOf slip (came.Committed outcome) after =
    (outcome.rec ≡ slip.rec) × (slip.seat.seen < outcome.place) × (outcome.place ≤ after.seen)
IsCommitOf slip _ after = ⊥

-- a seat's transaction is committed, or aborted by its script, only where the script says so; what is committed is its outcome, at a
-- place above what the seat had seen, which it has seen since
abbrev pub IsCameOf : Setting → SeatState → Dealt → Came → SeatState → Type 0
IsCameOf setting seat t (came.Committed outcome) after =
    IsOutcomeOf setting seat.examiner t outcome × (seat.seen < outcome.place) × (outcome.place ≤ after.seen)
IsCameOf setting seat t came.Aborted after = t.commits ≡ false
IsCameOf setting seat t came.InTheWay after = Unit {0}

-- what a worker has so far: outcomes, and how many transactions were aborted by the script and given up
pub record Counts : Type 0 where
  pub outcomes : List Outcome
  pub aborted : ℕ
  pub given_up : ℕ

-- these counts with one transaction more
abbrev pub with_came : Came → Counts → Counts
with_came (came.Committed outcome) n = record n { outcomes = n.outcomes ++ outcome ∷ [] }
with_came came.Aborted n = record n { aborted = n.aborted + 1 }
with_came came.InTheWay n = record n { given_up = n.given_up + 1 }

-- the places of these outcomes rise, from above a place on, up to another
abbrev pub RiseTo : ℕ → List Outcome → ℕ → Type 0
RiseTo n [] top = n ≤ top
RiseTo n (o ∷ rest) top = (n < o.place) × RiseTo o.place rest top

-- what came of an examiner's transactions so far, at places up to one
pub record IsRunTo (setting : Setting) (e : ℕ) (transactions : List Dealt) (outcomes : List Outcome) (top : ℕ) : Type 0 where
  pub outcomes_are : AreOutcomesOf setting e transactions outcomes
  pub rise : RiseTo 0 outcomes top

-- what a worker answers: its examiner, its seat, and what came of its script
pub record Report : Type 0 where
  pub examiner : ℕ
  pub seat : Option SeatState
  pub ended : Ended

-- what a worker answers, read off its answer
abbrev pub report_of : {B : Type 0} → Worked B → Report
report_of w = record {
  examiner = w.examiner;
  seat = w.seat;
  ended = record { outcomes = w.outcomes.items; aborted = w.aborted; given_up = w.given_up; fault = w.fault };
}

-- what comes of a script's transactions
abbrev pub IsScriptRun : Setting → Script → List Outcome → Type 0
IsScriptRun setting script outcomes = IsRunOf setting script.examiner (map dealt_in script.transactions.items) outcomes

-- a worker has run a script: it answers for its examiner, with a seat of that examiner if with any, ended by a fault that ends
-- workers if by any; where no fault ended it, each transaction was committed, aborted or given up and it has its seat; and in any case
-- its outcomes are those of transactions of the script
abbrev pub HasRun : Setting → Script → Report → Type 0
HasRun setting script r =
    (r.examiner ≡ script.examiner) × IfSome r.seat (λ s. s.examiner ≡ script.examiner) × IfSome r.ended.fault EndsWorker
    × IsCounted script r.ended × (r.ended.fault ≡ None → IsSome r.seat) × IsScriptRun setting script r.ended.outcomes

-- the workers have run these scripts, each its own, in order
abbrev pub HaveRun : Setting → List Script → List Report → Type 0
HaveRun setting [] [] = Unit {0}
HaveRun setting (script ∷ scripts) (r ∷ rest) = HasRun setting script r × HaveRun setting scripts rest
HaveRun setting _ _ = ⊥
