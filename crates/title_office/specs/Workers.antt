-- What workers make of their scripts.
use Rattle.std.specs.Prelude.{◌≡◌, ◌+◌, ℕ, List, [], ◌∷◌, length, map, Option, None}
use Rattle.title_settle.specs.declared.outcome.Outcome.{Outcome}
use Rattle.title_turns.specs.declared.script.Script.{Script}
use Rattle.title_office.specs.{declared.fault.Fault.{Fault}, Offices.{SeatState}}

-- the examiners of scripts
abbrev pub examiners_of : List Script → List ℕ
examiners_of scripts = map (λ s. s.examiner) scripts

-- the examiners of seats
abbrev pub seat_examiners : List SeatState → List ℕ
seat_examiners seats = map (λ s. s.examiner) seats

-- what came of a script
pub record Ended : Type 0 where
  pub outcomes : List Outcome
  pub aborted : ℕ
  pub given_up : ℕ
  pub fault : Option Fault

-- where no fault ended the worker, each transaction of the script was committed, aborted or given up
abbrev pub IsCounted : Script → Ended → Type 0
IsCounted script ended =
    ended.fault ≡ None → length ended.outcomes + ended.aborted + ended.given_up ≡ length script.transactions.items

-- what came of scripts, in order
abbrev pub AreCounted : List Script → List Ended → Type 0
AreCounted [] [] = Unit {0}
AreCounted (script ∷ scripts) (ended ∷ rest) = IsCounted script ended × AreCounted scripts rest
AreCounted _ _ = ⊥
