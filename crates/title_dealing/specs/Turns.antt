-- What an office's script asks for: each step is one of its examiners', and each examiner's transactions come one after another.
use Rattle.std.specs.Prelude.{◌≡◌, ◌≤◌, ℕ, ◌==◌, cond, Bool, true, false, List, Option, Some, None, Ok, All, fold}
use Rattle.title_trace.specs.{declared.call.Request.{Request}, Trace.{examiner_of}}
use Rattle.title_trace.specs.declared.call.Request.TheVariants as request
use Rattle.title_plan.specs.{declared.line.Line.{Line}, Asked.{Asked}, Onto.{Before, script_onto}, Plans.{is_inside, script_of}}
use Rattle.title_plan.specs.declared.line.Line.TheVariants as line
use Rattle.title_plan.specs.declared.line.Schedule.TheVariants as schedule

-- a step asks as it stands, and its examiner is one from 1 to this number
abbrev pub IsAskedBy : ℕ → Line → Type 0
IsAskedBy number (line.Asks q) = (1 ≤ examiner_of q) × (examiner_of q ≤ number)
IsAskedBy number _ = ⊥

-- a transaction is a begin, steps and an end: whether its examiner is inside it after a request, where the request is one that may come
abbrev pub turn_after : Bool → Request → Option Bool
turn_after false (request.Begin e) = Some true
turn_after true (request.Step e a) = Some true
turn_after true (request.Commit e) = Some false
turn_after true (request.Abort e) = Some false
turn_after _ _ = None

-- the same after a step, which says nothing of other examiners than its own
abbrev pub turn_on : ℕ → Option Bool → Line → Option Bool
turn_on e (Some inside) (line.Asks q) = cond (e == examiner_of q) (turn_after inside q) (Some inside)
turn_on e _ _ = None

-- whether an examiner is inside a transaction after these steps, where its own are transactions one after another
abbrev pub turn_of : ℕ → List Line → Option Bool
turn_of e lines = fold (turn_on e) (Some false) lines

-- what an office of this number of examiners asks for
pub record IsOffice (number : ℕ) (asked : Asked) : Type 0 where
  pub examiners : All (IsAskedBy number) asked.lines
  pub turns : (e : ℕ) → turn_of e asked.lines ≡ Some (is_inside asked.inside e)

-- the script of an office asks for what an office does
abbrev pub OfficesKeepTurns : Type 0
OfficesKeepTurns =
    (number : ℕ) (bytes : List ℕ) (asked : Asked) → script_of (schedule.Office number) bytes ≡ Ok asked → IsOffice number asked

-- the script of an office asks for what an office does on top of what stands, too
abbrev pub OfficesKeepTurnsOnto : Type 0
OfficesKeepTurnsOnto =
    (number : ℕ) (before : Before) (bytes : List ℕ) (asked : Asked) → script_onto (schedule.Office number) before bytes ≡ Ok asked
    → IsOffice number asked
