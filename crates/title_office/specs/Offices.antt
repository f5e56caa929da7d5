-- What an office's calls tell. What lies behind its lock can't be spoken of, so each says that some due trace of the plant is there
-- in which the call is the last. Traces have the newest call first.
use Rattle.std.specs.Prelude.{◌≡◌, ◌≤◌, ◌∷◌, ◌++◌, ℕ, zero, suc, Bool, true, false, cond, List, [], length, reverse, Option, None, Some}
use Rattle.title_land.specs.Depth.{depth}
use Rattle.title_chain.specs.{declared.{ask.{Ask.{Ask}, Answer.{Answer}, Step.{Step}}, record.Record.{Record}}, Alone.{IsSerial}}
use Rattle.title_trace.specs.{declared.call.{Call.{Call}, Request.{Request}, Reply.{Reply}}, Trace.{is_open, open_steps, committed}}
use Rattle.title_trace.specs.Due.{Setting, DueReply, IsDue}
use Rattle.title_trace.specs.declared.call.Request.TheVariants as request
use Rattle.title_trace.specs.declared.call.Reply.TheVariants as reply
use Rattle.title_trace.specs.declared.denial.Denial.TheVariants as denial
use Rattle.title_desk.specs.Told.{IsFirstOpen}
use Rattle.title_settle.specs.{declared.outcome.{Outcome.{Outcome}, Unsettled.{Unsettled}}, Settling.{IsSettled, IsUneven}}
use Rattle.title_settle.specs.declared.outcome.Unsettled.TheVariants as unsettled
use Rattle.title_views.specs.Views.{Shows, Sight}
use Rattle.title_office.specs.declared.fault.Fault.{Fault}
use Rattle.title_office.specs.declared.fault.Fault.TheVariants as fault

-- a seat as its holder sees it: its office's number, its examiner, and how many records it has seen committed
pub record SeatState : Type 0 where
  pub number : ℕ
  pub examiner : ℕ
  pub seen : ℕ

-- a slip: the seat that it was begun from, its record so far, and its receipt
pub record SlipState : Type 0 where
  pub seat : SeatState
  pub rec : Record
  pub receipt : Shows

-- the slip with these steps in place of its own
abbrev pub with_steps : SlipState → List Step → SlipState
with_steps slip own = record slip { rec = record { examiner = slip.rec.examiner; steps = own } }

-- the slip with this receipt, whose records its seat has seen
abbrev pub having_seen : SlipState → Shows → SlipState
having_seen slip receipt = record { seat = record slip.seat { seen = length receipt.front }; rec = slip.rec; receipt = receipt }

-- the most seats of an office
abbrev pub most_seats : ℕ
most_seats = 64

-- the answer to the first of these steps, if there is one
abbrev pub first_answer : List Step → Option Answer
first_answer [] = None
first_answer (s ∷ rest) = Some s.answer

-- the answer to the last of these steps, if there is one
abbrev pub last_answer : List Step → Option Answer
last_answer steps = first_answer (reverse steps)

-- the seats of the examiners from 1 to a number, in order, none of which has seen a record
abbrev pub opening_seats : ℕ → ℕ → List SeatState
opening_seats number zero = []
opening_seats number (suc e) = opening_seats number e ++ record { number = number; examiner = suc e; seen = 0 } ∷ []

-- a viewer that has just been opened: it has seen no record, and learnt of none
abbrev pub opening_sight : ℕ → Sight
opening_sight number = record { number = number; seen = []; told = [] }

-- one that is opened where records stand: it has seen none, and learnt of all of them
abbrev pub sight_on : ℕ → List Record → Sight
sight_on number records = record { number = number; seen = []; told = records }

-- a request that publishes no record: it isn't the commit of a transaction that is open
abbrev pub PublishesNothing : List Call → Request → Type 0
PublishesNothing before (request.Commit e) = is_open e before ≡ false
PublishesNothing before _ = Unit {0}

-- under the lock a call is added to the trace with the due reply, or wants memory and changes nothing
abbrev pub IsServed : Setting → List Call → Request → Reply → List Call → Type 0
IsServed setting before q reply.Memory after = after ≡ before
IsServed setting before q r after = (after ≡ record { request = q; reply = r } ∷ before) × DueReply depth setting before q r

-- this request with this reply is the last call of a due trace, after those before it
abbrev pub IsLast : Setting → List Call → Request → Reply → Type 0
IsLast setting before q r = IsDue depth setting (record { request = q; reply = r } ∷ before)

-- the seat has seen no more records than are committed
abbrev pub HasSeen : SeatState → List Call → Type 0
HasSeen seat before = seat.seen ≤ length (committed before)

-- the slip is its examiner's open transaction, with the slip's steps, and its seat has seen no more records than are committed
abbrev pub Stands : SlipState → List Call → Type 0
Stands slip before =
    (is_open slip.seat.examiner before ≡ true) × (open_steps before slip.seat.examiner ≡ reverse slip.rec.steps)
    × HasSeen slip.seat before

-- the seat, having seen what is committed
abbrev pub seeing : SeatState → List Call → SeatState
seeing seat before = record seat { seen = length (committed before) }

-- the receipt of what is committed, for this seat; a receipt lists the oldest record first
abbrev pub receipt_for : SeatState → List Call → Shows
receipt_for seat before = record { number = seat.number; front = reverse (committed before) }

-- a transaction is begun: the slip has no step
abbrev pub Begins : Setting → SeatState → SlipState → Type 0
Begins setting seat slip =
    (before : List Call) × IsLast setting before (request.Begin seat.examiner) reply.Began × HasSeen seat before
    × (slip ≡ record {
      seat = seeing seat before;
      rec = record { examiner = seat.examiner; steps = [] };
      receipt = receipt_for seat before;
    })

-- the slip with an answered ask more
abbrev pub with_step : SlipState → List Call → Ask → Answer → SlipState
with_step slip before a given = record {
  seat = seeing slip.seat before;
  rec = record { examiner = slip.rec.examiner; steps = slip.rec.steps ++ record { ask = a; answer = given } ∷ [] };
  receipt = receipt_for slip.seat before;
}

-- a step is answered: the slip has this ask with the due answer more
abbrev pub Answers : Setting → SlipState → Ask → SlipState → Type 0
Answers setting slip a after =
    (before : List Call) × (given : Answer) × IsLast setting before (request.Step slip.seat.examiner a) (reply.Answered given)
    × Stands slip before × (after ≡ with_step slip before a given)

-- a transaction is committed: its record is the slip's, behind the records before it; these and it are serial, and the receipt has them
abbrev pub Commits : Setting → SlipState → ℕ → Record → Shows → SeatState → Type 0
Commits setting slip place rec receipt seat =
    (before : List Call) × IsLast setting before (request.Commit slip.seat.examiner) (reply.Committed place) × Stands slip before
    × (place ≡ suc (length (committed before))) × (rec ≡ slip.rec) × IsSerial depth setting.townships (rec ∷ committed before)
    × (receipt ≡ record { number = slip.seat.number; front = reverse (rec ∷ committed before) })
    × (seat ≡ record slip.seat { seen = place })

-- a transaction is aborted, or its examiner has none open
abbrev pub Aborts : Setting → SlipState → SeatState → Bool → Type 0
Aborts setting slip seat ended =
    (before : List Call) × IsLast setting before (request.Abort slip.seat.examiner) (cond ended reply.Aborted (reply.Denied denial.NotOpen))
    × (ended ≡ true → Stands slip before) × (seat ≡ slip.seat)

-- an examiner who is gone is aborted, or has none open
abbrev pub Sweeps : Setting → ℕ → Reply → Type 0
Sweeps setting e r = (before : List Call) × IsLast setting before (request.Abort e) r

-- a denial is the last reply of a due trace, and but for NotOpen this holds of the calls before it; a stranger's call and want of
-- memory come to no trace
abbrev pub IsRefused : Setting → (List Call → Type 0) → Request → Fault → Type 0
IsRefused setting Holds q (fault.Denied denial.NotOpen) = (before : List Call) × IsLast setting before q (reply.Denied denial.NotOpen)
IsRefused setting Holds q (fault.Denied why) = (before : List Call) × IsLast setting before q (reply.Denied why) × Holds before
IsRefused setting Holds q fault.Memory = Unit {0}
IsRefused setting Holds q fault.Stranger = Unit {0}
IsRefused setting Holds q fault.NoThread = ⊥

-- the fault that a refusal of the desk is told as; its other replies refuse nothing
abbrev pub refusal_of : Reply → Option Fault
refusal_of reply.Began = None
refusal_of (reply.Answered given) = None
refusal_of (reply.Committed place) = None
refusal_of reply.Aborted = None
refusal_of (reply.Denied why) = Some (fault.Denied why)
refusal_of reply.Memory = Some fault.Memory

-- why a slip is not its examiner's open transaction: its examiner has none open, or the slip is a stranger's
abbrev pub Falls : SlipState → List Call → Fault → Type 0
Falls slip before (fault.Denied denial.NotOpen) = is_open slip.seat.examiner before ≡ false
Falls slip before fault.Stranger = Unit {0}
Falls slip before _ = ⊥

-- a reply that a step may have
abbrev pub IsToStep : Reply → Type 0
IsToStep reply.Began = ⊥
IsToStep (reply.Committed place) = ⊥
IsToStep reply.Aborted = ⊥
IsToStep _ = Unit {0}

-- a step is refused: the slip is as it was
abbrev pub Refuses : Setting → SlipState → Ask → SlipState → Fault → Type 0
Refuses setting slip a after why =
    (after ≡ slip) × IsRefused setting (Stands slip) (request.Step slip.seat.examiner a) why

-- nobody has a transaction open
abbrev pub IsQuiet : List Call → Type 0
IsQuiet trace = (e : ℕ) → is_open e trace ≡ false

-- an office is settled: nobody is open, and the outcomes are the records, which are serial
abbrev pub Settles : Setting → List Outcome → List Record → Type 0
Settles setting outcomes records =
    (trace : List Call) × IsDue depth setting trace × IsQuiet trace × (committed trace ≡ reverse records)
    × IsSerial depth setting.townships (reverse records) × IsSettled records outcomes

-- why an office can't be settled
abbrev pub IsUnsettled : Setting → List Outcome → Unsettled → Type 0
IsUnsettled setting outcomes unsettled.Memory = Unit {0}
IsUnsettled setting outcomes (unsettled.Open e) = (trace : List Call) × IsDue depth setting trace × IsFirstOpen trace (Some e)
IsUnsettled setting outcomes why =
    (trace : List Call) × IsDue depth setting trace × IsQuiet trace × IsUneven (reverse (committed trace)) outcomes why
