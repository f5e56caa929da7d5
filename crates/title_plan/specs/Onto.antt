-- What a script asks for on top of what stands before it: what stands may be declared once more.
use Rattle.std.specs.Prelude.{◌≡◌, ◌≤◌, ℕ, ◌+◌, ◌==◌, ◌&&◌, cond, Bool, false, List, [], ◌∷◌, codes, drop, length, map, take}
use Rattle.std.specs.{Prelude.{Option, Some, None, Result, Ok, Err}, List.{list_any}, Str.{bytes_eq}, String.{string_bytes}}
use mathlib.Core.List.{IsPrefix}
use Rattle.title_land.specs.{declared.{survey.Township.{Township}, tract.Land.{Land}}, Survey.{same_township}}
use Rattle.title_aliquot.specs.declared.fault.DescFault.{DescFault}
use Rattle.title_plan.specs.declared.{fault.ScriptFault.{ScriptFault}, line.Schedule.{Schedule}, onto.{Declared.{Declared}, Stood.{Stood}}}
use Rattle.title_plan.specs.{declared.row.Row.{Row}, Asked.{Asked}, Lands.{land_in, said_township}}
use Rattle.title_plan.specs.Plans.{after_step_row, after_township, going_on, rows_in, script_of, understood, with_party}
use Rattle.title_plan.specs.declared.fault.ScriptFault.TheVariants as fault
use Rattle.title_plan.specs.declared.row.Row.TheVariants as row

-- what stands before a script: its townships, and the names of its parties, whose numbers are their indices from 0; the first
-- party is UNITED STATES
pub record Before : Type 0 where
  pub townships : List Township
  pub names : List (List ℕ)

-- UNITED STATES alone
abbrev pub nothing_before : Before
nothing_before = record { townships = []; names = codes "UNITED STATES" ∷ [] }

-- what is declared
abbrev pub before_in : Declared → Before
before_in d = record { townships = d.townships.items; names = map string_bytes d.parties.keys }

-- the first townships and parties of those that rows have declared
abbrev pub first_of : Stood → Asked → Before
first_of stood asked = record { townships = take stood.townships asked.townships; names = take stood.parties asked.names }

-- so many have been declared
abbrev pub StandIn : Stood → Asked → Type 0
StandIn stood asked = (stood.townships ≤ length asked.townships) × (stood.parties ≤ length asked.names)

-- before the first row: no step, and no transaction is open
abbrev pub asked_on : Before → Asked
asked_on before = record { townships = before.townships; names = before.names; lines = []; inside = [] }

-- ---- declarations

abbrev pub is_one_of : List Township → Option Township → Bool
is_one_of townships None = false
is_one_of townships (Some t) = list_any (λ other. same_township other t) townships

-- what a text describes is one of the townships that stand
abbrev pub is_township_of : Before → Result Land DescFault → Bool
is_township_of before said = is_one_of before.townships (said_township said)

-- the n-th row declares what a text describes: a township that stands is passed over before the first step
abbrev pub township_onto : Before → ℕ → Asked → Result Land DescFault → Result Asked ScriptFault
township_onto before n asked said = cond (length asked.lines == 0 && is_township_of before said) (Ok asked) (after_township n asked said)

-- the name is that of a party that stands behind the first
abbrev pub is_party_of : Before → List ℕ → Bool
is_party_of before name = list_any (bytes_eq name) (drop 1 before.names)

-- the n-th row declares a party: one that stands behind the first is passed over before the first step
abbrev pub party_onto : Before → ℕ → Asked → List ℕ → Result Asked ScriptFault
party_onto before n asked name = cond (length asked.lines == 0 && is_party_of before name) (Ok asked) (with_party n asked name)

-- ---- rows

-- the n-th row says this
abbrev pub after_said_onto : Schedule → Before → ℕ → Asked → Row (List ℕ) → Result Asked ScriptFault
after_said_onto sched before n asked (row.Township text) = township_onto before n asked (land_in text)
after_said_onto sched before n asked (row.Party name) = party_onto before n asked name
after_said_onto sched before n asked (row.Step e a) = after_step_row sched n asked e a

abbrev pub after_understood_onto : Schedule → Before → ℕ → Asked → Option (Row (List ℕ)) → Result Asked ScriptFault
after_understood_onto sched before n asked None = Err (fault.Row n)
after_understood_onto sched before n asked (Some said) = after_said_onto sched before n asked said

-- after the n-th row, which has these fields: one that is not understood is at fault
abbrev pub after_row_onto : Schedule → Before → ℕ → Asked → List (List ℕ) → Result Asked ScriptFault
after_row_onto sched before n asked fields = after_understood_onto sched before n asked (understood n fields)

-- after these rows, the first of which is the n-th
abbrev pub after_rows_onto : Schedule → Before → ℕ → Asked → List (List (List ℕ)) → Result Asked ScriptFault
after_rows_onto sched before n asked [] = Ok asked
after_rows_onto sched before n asked (row ∷ rows) =
    going_on (λ after. after_rows_onto sched before (n + 1) after rows) (after_row_onto sched before n asked row)

-- what a script asks for on top of what stands, or its first fault
abbrev pub script_onto : Schedule → Before → List ℕ → Result Asked ScriptFault
script_onto sched before bytes = after_rows_onto sched before 1 (asked_on before) (rows_in bytes)

-- ---- laws

-- on top of nothing a script asks for what it asks for alone
abbrev pub OntoNothing : Type 0
OntoNothing = (sched : Schedule) (bytes : List ℕ) → script_onto sched nothing_before bytes ≡ script_of sched bytes

-- what stands keeps its indices, and what a script declares comes behind it
abbrev pub BeginsWith : Asked → Before → Type 0
BeginsWith asked before = IsPrefix before.townships asked.townships × IsPrefix before.names asked.names

abbrev pub ScriptsBegin : Type 0
ScriptsBegin = (sched : Schedule) (before : Before) (bytes : List ℕ) (asked : Asked) → script_onto sched before bytes ≡ Ok asked
    → BeginsWith asked before
