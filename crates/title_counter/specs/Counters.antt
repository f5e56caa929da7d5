-- A counter, and what is answered to a row there. Lists of calls have the newest first.
use Rattle.std.specs.Prelude.{ℕ, ◌+◌, Bool, true, false, cond, List, [], ◌∷◌, codes, length, nat_le, Option, Some, None, Result, Ok, Err}
use Rattle.std.specs.Fmt.{decimal}
use Rattle.title_land.specs.declared.survey.Township.{Township}
use Rattle.title_chain.specs.Alone.{most_parties}
use Rattle.title_trace.specs.{declared.call.Call.{Call}, Due.{Setting}}
use Rattle.title_plan.specs.{Asked.{Asked}, Lands.{land_in}, Plans.{after_step_row, after_township, understood, with_party}}
use Rattle.title_plan.specs.declared.{fault.ScriptFault.{ScriptFault}, line.Line.{Line}, row.Row.{Row}}
use Rattle.title_plan.specs.declared.fault.ScriptFault.TheVariants as fault
use Rattle.title_plan.specs.declared.line.Schedule.TheVariants as schedule
use Rattle.title_plan.specs.declared.row.Row.TheVariants as row
use Rattle.title_script.specs.Served.{after_line, line_rows}
use Rattle.title_counter.specs.{Closings.{with_aborts}, Founds.{found_in}, Limits.{longest_line}, declared.found.Found.{Found}}
use Rattle.title_counter.specs.declared.found.Found.TheVariants as found

-- what rows have come to so far: the townships; the names of the parties, whose numbers are their indices from 0; how many rows there
-- were, and how many step rows that were served or whose description is none; whether no township may be declared any more; and the
-- desk's trace
pub record Counter : Type 0 where
  pub townships : List Township
  pub names : List (List ℕ)
  pub rows : ℕ
  pub steps : ℕ
  pub shut : Bool
  pub trace : List Call

-- before the first row there is one party, of which the land comes
abbrev pub opening : Counter
opening = record { townships = []; names = codes "UNITED STATES" ∷ []; rows = 0; steps = 0; shut = false; trace = [] }

-- the desk: parties may be declared at any time, so it has as many as may be
abbrev pub setting_at : Counter → Setting
setting_at c = record { parties = most_parties; townships = c.townships }

-- what a script would have declared by now, and no step
abbrev pub asked_at : Counter → Asked
asked_at c = record { townships = c.townships; names = c.names; lines = []; inside = [] }

-- one row more
abbrev pub counted : Counter → Counter
counted c = record {
  townships = c.townships;
  names = c.names;
  rows = c.rows + 1;
  steps = c.steps;
  shut = c.shut;
  trace = c.trace;
}

-- ---- answers

-- an answer: its rows, and the counter after it
pub record Answered : Type 0 where
  pub rows : List (List (List ℕ))
  pub after : Counter

-- the number of a fault, as `run` has it
abbrev pub fault_number : ScriptFault → ℕ
fault_number (fault.Row n) = 31
fault_number (fault.Party n) = 34
fault_number (fault.Order n) = 35
fault_number fault.Memory = 6

-- a row that is passed over: `fault,NUMBER,ROW`, and nothing has changed
abbrev pub passed_over : Counter → ScriptFault → Answered
passed_over c e = record { rows = (codes "fault" ∷ decimal (fault_number e) ∷ decimal c.rows ∷ []) ∷ []; after = c }

abbrev pub or_fault : Counter → Result Answered ScriptFault → Answered
or_fault c (Ok answer) = answer
or_fault c (Err e) = passed_over c e

-- ---- declarations

abbrev pub with_townships : Counter → List Township → Answered
with_townships c townships = record {
  rows = (codes "township" ∷ decimal (length townships) ∷ []) ∷ [];
  after = record {
    townships = townships;
    names = c.names;
    rows = c.rows;
    steps = c.steps;
    shut = c.shut;
    trace = c.trace;
  };
}

-- `township,N`, the number of townships from then on; not after the first step row
abbrev pub township_answer : Counter → Result Asked ScriptFault → Result Answered ScriptFault
township_answer c (Err e) = Err e
township_answer c (Ok asked) = cond c.shut (Err (fault.Order 1)) (Ok (with_townships c asked.townships))

-- `party,N`, the party's number
abbrev pub party_answer : Counter → Result Asked ScriptFault → Result Answered ScriptFault
party_answer c (Err e) = Err e
party_answer c (Ok asked) = Ok (record {
  rows = (codes "party" ∷ decimal (length c.names) ∷ []) ∷ [];
  after = record {
    townships = c.townships;
    names = asked.names;
    rows = c.rows;
    steps = c.steps;
    shut = c.shut;
    trace = c.trace;
  };
})

-- ---- steps

-- a step is served: its answer are the rows of the due reply
abbrev pub served : Counter → Line → Answered
served c line = record {
  rows = line_rows (setting_at c) c.names c.trace line;
  after = record {
    townships = c.townships;
    names = c.names;
    rows = c.rows;
    steps = c.steps + 1;
    shut = true;
    trace = after_line (setting_at c) c.trace line;
  };
}

-- a step row adds one step
abbrev pub first_served : Counter → List Line → Result Answered ScriptFault
first_served c (line ∷ lines) = Ok (served c line)
first_served c [] = Err (fault.Row 1)

abbrev pub step_answer : Counter → Result Asked ScriptFault → Result Answered ScriptFault
step_answer c (Err e) = Err e
step_answer c (Ok asked) = first_served c asked.lines

-- ---- rows

-- the due answer to what a row says: it means what it means in a script of `run`
abbrev pub due_said : Counter → Row (List ℕ) → Result Answered ScriptFault
due_said c (row.Township text) = township_answer c (after_township 1 (asked_at c) (land_in text))
due_said c (row.Party name) = party_answer c (with_party 1 (asked_at c) name)
due_said c (row.Step e a) = step_answer c (after_step_row schedule.Interleaved 1 (asked_at c) e a)

abbrev pub due_understood : Counter → Option (Row (List ℕ)) → Result Answered ScriptFault
due_understood c None = Err (fault.Row 1)
due_understood c (Some said) = due_said c said

-- the due answer to what is found in a line; a blank line counts for nothing
abbrev pub due_found : Counter → Found (List (List ℕ)) → Answered
due_found c found.Blank = record { rows = []; after = c }
due_found c found.Spoilt = passed_over (counted c) (fault.Row 1)
due_found c (found.Row fields) = or_fault (counted c) (due_understood (counted c) (understood 1 fields))

-- the due answer to a line; one that is too long is passed over
abbrev pub due_answer : Counter → List ℕ → Answered
due_answer c line = cond (nat_le (length line) longest_line) (due_found c (found_in line)) (passed_over (counted c) (fault.Row 1))

-- ---- the end

-- these examiners' transactions are aborted, one after another
abbrev pub aborted : Counter → List ℕ → Counter
aborted c examiners = record {
  townships = c.townships;
  names = c.names;
  rows = c.rows;
  steps = c.steps;
  shut = c.shut;
  trace = with_aborts (setting_at c) c.trace examiners;
}
