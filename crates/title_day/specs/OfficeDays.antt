-- What came of the scripts of an office, gathered and counted.
use Rattle.std.specs.Prelude.{◌≡◌, ◌+◌, ℕ, List, [], ◌∷◌, length, map, sum, Option, Some, None}
use Rattle.title_settle.specs.declared.outcome.Outcome.{Outcome}
use Rattle.title_turns.specs.declared.script.Script.{Script}
use Rattle.title_day.specs.declared.{tally.Tally.{Tally}, office_fault.OfficeFault.{OfficeFault}}
use Rattle.title_script.specs.declared.fault.RunFault.TheVariants as fault
use Rattle.title_day.specs.declared.office_fault.OfficeFault.TheVariants as office

-- the tally of an examiner with these outcomes, and so many transactions aborted and given up
abbrev pub tally_of : ℕ → List Outcome → (aborted given_up : ℕ) → Tally
tally_of e outcomes aborted given_up =
    record { examiner = e; committed = length outcomes; aborted = aborted; given_up = given_up }

-- a tally tells what came of each transaction of a script
abbrev pub IsTold : Script → Tally → Type 0
IsTold script t =
    (t.examiner ≡ script.examiner) × (t.committed + t.aborted + t.given_up ≡ length script.transactions.items)

-- these tallies are those of these scripts, in order
abbrev pub AreTold : List Script → List Tally → Type 0
AreTold [] [] = Unit {0}
AreTold (script ∷ scripts) (t ∷ tallies) = IsTold script t × AreTold scripts tallies
AreTold _ _ = ⊥

-- how many transactions were committed in all
abbrev pub committed_by : List Tally → ℕ
committed_by tallies = sum (map (λ t. t.committed) tallies)

-- the first of these that is there
abbrev pub first_there : {A : Type 0} → List (Option A) → Option A
first_there [] = None
first_there (None ∷ rest) = first_there rest
first_there (Some a ∷ rest) = Some a

-- the faults that an office's day may end with: want of memory, a worker's fault, or that the office can't be settled
abbrev pub IsOfficeTrouble : OfficeFault → Type 0
IsOfficeTrouble (office.Run fault.Memory) = Unit {0}
IsOfficeTrouble (office.Run _) = ⊥
IsOfficeTrouble (office.Worker why) = Unit {0}
IsOfficeTrouble (office.Unsettled why) = Unit {0}
