-- What the code has, as definitions speak of it.
use Rattle.std.specs.{Prelude.{◌≡◌, ◌⊎◌, ℕ, List, [], ◌∷◌, codes, map, Result, Ok, Err}, Fmt.{decimal}, String.{string_bytes}}
use Rattle.title_aliquot.specs.declared.fault.DescFault.{DescFault}
use Rattle.title_trace.specs.declared.call.Request.{Request}
use Rattle.title_plan.specs.{Asked.{Asked}, Onto.{asked_on, before_in}, declared.{fault.ScriptFault.{ScriptFault}, line.Line.{Line}}}
use Rattle.title_plan.specs.declared.onto.Declared.{Declared}
use Rattle.title_plan.specs.declared.fault.ScriptFault.TheVariants as fault
use Rattle.title_plan.specs.declared.line.Line.TheVariants as line
use Rattle.title_report.specs.Replies.{described_row, reply_rows}
use Rattle.title_counter.specs.{Counters.{Answered, Counter, fault_number}, declared.{answer.Answer.{Answer}, clerk.Clerk.{Clerk}}}
use Rattle.title_counter.specs.declared.answer.Answer.TheVariants as answer

-- what is declared, and no step
abbrev pub asked_of : Declared → Asked
asked_of declared = asked_on (before_in declared)

-- what an examiner asks, as a step of a script
abbrev pub line_in : ℕ → Result Request DescFault → Line
line_in e (Ok q) = line.Asks q
line_in e (Err why) = line.Described e why

-- what a clerk's rows have come to
abbrev pub counter_of : Clerk → Counter
counter_of clerk = record {
  townships = clerk.declared.townships.items;
  names = map string_bytes clerk.declared.parties.keys;
  rows = clerk.rows;
  steps = clerk.steps;
  shut = clerk.shut;
  trace = clerk.desk.trace;
}

-- the rows of an answer
abbrev pub answer_rows : List (List ℕ) → Answer → List (List (List ℕ))
answer_rows names answer.Nothing = []
answer_rows names (answer.Township n) = (codes "township" ∷ decimal n ∷ []) ∷ []
answer_rows names (answer.Party n) = (codes "party" ∷ decimal n ∷ []) ∷ []
answer_rows names (answer.Replied e reply) = reply_rows names e reply
answer_rows names (answer.Described e why) = described_row e why ∷ []
answer_rows names (answer.PassedOver why n) = (codes "fault" ∷ decimal (fault_number why) ∷ decimal n ∷ []) ∷ []

-- an answer, with what the clerk's rows have come to after it
abbrev pub answered : Answer → Clerk → Answered
answered a clerk = record { rows = answer_rows (counter_of clerk).names a; after = counter_of clerk }

-- a fault is want of memory, or the due one
abbrev pub IsFault : Result Answered ScriptFault → ScriptFault → Type 0
IsFault due e = (e ≡ fault.Memory) ⊎ (due ≡ Err e)
