-- Of which transactions an office's records are. A list of what stood has the newest record first; the records of a day, and outcomes,
-- have the oldest first.
use Rattle.std.specs.{Prelude.{◌≡◌, ℕ, zero, suc, List, [], ◌∷◌, ◌++◌, length, map, reverse}, List.{flat_map}}
use Rattle.title_chain.specs.declared.record.Record.{Record}
use Rattle.title_trace.specs.Due.{Setting}
use Rattle.title_settle.specs.{declared.outcome.Outcome.{Outcome}, Settling.{IsSettled}}
use Rattle.title_turns.specs.Dealt.{Dealt}
use Rattle.title_office.specs.Transactions.{AreRunsOf}
use Rattle.title_plan.specs.declared.line.Line.{Line}
use Rattle.title_dealing.specs.Dealing.{transactions_of}
use Rattle.title_day.specs.declared.tally.Tally.{Tally}

-- these records, each with its place, from a place on
abbrev pub placed : ℕ → List Record → List Outcome
placed n [] = []
placed n (r ∷ records) = record { place = n; rec = r } ∷ placed (suc n) records

-- the transactions that rows ask so many examiners for, from a number on
abbrev pub scripts_in : List Line → ℕ → ℕ → List (ℕ × List Dealt)
scripts_in lines e zero = []
scripts_in lines e (suc n) = (e, transactions_of lines e) ∷ scripts_in lines (suc e) n

-- records are what stood and, behind it, what examiners have committed of their transactions: each has a list of what it has committed,
-- which its tally counts, and together with what stood these are the records, each once
pub record AreMadeOf (setting : Setting) (scripts : List (ℕ × List Dealt)) (stood : List Record) (tallies : List Tally)
    (records : List Record) : Type 0 where
  pub runs : List (List Outcome)
  pub runs_are : AreRunsOf setting scripts runs
  pub tallied : map (λ t. t.committed) tallies ≡ map length runs
  pub are_records : IsSettled records (placed 1 (reverse stood) ++ flat_map (λ run. run) runs)
