-- What an office's script asks for, dealt to its examiners.
use Rattle.std.specs.{Prelude.{◌≡◌, ℕ, List, length, map, Ok}, String.{string_bytes}}
use Rattle.title_plan.specs.declared.line.Schedule.TheVariants as schedule
use Rattle.title_plan.specs.{Asked.{Asked}, Plans.{script_of}}
use Rattle.title_dealing.specs.{declared.office_script.OfficeScript.{OfficeScript}, Dealing.{AreDealt}}

-- this is what is asked for, dealt to so many examiners: its townships, its parties' names, how many step rows there are, and each
-- examiner's transactions
pub record IsDealtOf (number : ℕ) (asked : Asked) (script : OfficeScript) : Type 0 where
  pub townships : script.townships.items ≡ asked.townships
  pub names : map string_bytes script.parties.keys ≡ asked.names
  pub steps : script.steps ≡ length asked.lines
  pub many : length script.scripts.items ≡ number
  pub dealt : AreDealt asked.lines 1 script.scripts.items

-- this is what the bytes of the script of an office of so many examiners ask for, dealt to them
abbrev pub IsOfficeScript : ℕ → List ℕ → OfficeScript → Type 0
IsOfficeScript number bytes script =
    (asked : Asked) × (script_of (schedule.Office number) bytes ≡ Ok asked) × IsDealtOf number asked script
