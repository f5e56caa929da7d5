-- What a run of an office's script does, as a whole. Each says nothing where the script's bytes are not known.
use Rattle.std.specs.Prelude.{◌≡◌, ℕ, List, Bool, false, Option, IfSome, Result, Ok, IfErr, OnOk, take}
use Rattle.std.specs.Io.KnownBytes.{Appends, IsAtEnd, Keeps}
use Rattle.title_plan.specs.declared.line.Schedule.TheVariants as schedule
use Rattle.title_plan.specs.{Asked.{Asked}, Plans.{script_of}}
use Rattle.title_script.specs.declared.fault.RunFault.TheVariants as fault
use Rattle.title_day.specs.{declared.office_fault.OfficeFault.{OfficeFault}, OfficeReports.{IsOfficeReport}}
use Rattle.title_day.specs.declared.office_fault.OfficeFault.TheVariants as office
use Rattle.title_script.specs.Runs.{IsCause, IsReadWithin}

-- the script is one of an office of this number of examiners, and this is a report of it
abbrev pub IsReportOf : ℕ → List ℕ → List ℕ → Type 0
IsReportOf number script report =
    (asked : Asked) × (script_of (schedule.Office number) script ≡ Ok asked) × IsOfficeReport number asked report

-- a report of the script was written, and nothing else
abbrev pub ReportsOffice : ℕ → Option (List ℕ) → Option (List ℕ) → Option (List ℕ) → Type 0
ReportsOffice number known before after =
    IfSome known (λ script. (report : List ℕ) × IsReportOf number script report × Appends before after report)

-- the script can be run
abbrev pub CanRun : ℕ → List ℕ → Type 0
CanRun number script = (asked : Asked) × (script_of (schedule.Office number) script ≡ Ok asked)

-- why a run fails: as other runs do; or the script can be run, and a worker has ended with a fault, or the office can't be settled
abbrev pub IsOfficeCause : ℕ → List ℕ → (source_failed sink_failed : Bool) → OfficeFault → Type 0
IsOfficeCause number script source_failed sink_failed (office.Run why) =
    IsCause (schedule.Office number) script source_failed sink_failed why
IsOfficeCause number script source_failed sink_failed (office.Worker why) = CanRun number script
IsOfficeCause number script source_failed sink_failed (office.Unsettled why) = CanRun number script

-- the fault of a run tells why it failed
abbrev pub ExplainsOffice : ℕ → Option (List ℕ) → (source_failed sink_failed : Bool) → OfficeFault → Type 0
ExplainsOffice number known source_failed sink_failed e =
    IfSome known (λ script. IsOfficeCause number script source_failed sink_failed e)

-- why there is no report of a script, whatever its source and the sink do
abbrev pub IsOwnCause : ℕ → List ℕ → OfficeFault → Type 0
IsOwnCause number script (office.Run fault.Read) = ⊥
IsOwnCause number script (office.Run fault.Write) = ⊥
IsOwnCause number script (office.Run why) = IsCause (schedule.Office number) script false false why
IsOwnCause number script (office.Worker why) = CanRun number script
IsOwnCause number script (office.Unsettled why) = CanRun number script

-- what a failed run leaves: nothing written, and after a fault of the sink a beginning of a report
abbrev pub IsOfficeLeft : ℕ → List ℕ → Option (List ℕ) → Option (List ℕ) → OfficeFault → Type 0
IsOfficeLeft number script before after (office.Run fault.Write) =
    (report : List ℕ) × (n : ℕ) × IsReportOf number script report × Appends before after (take n report)
IsOfficeLeft number script before after _ = Keeps before after

-- what stands written after the fault of a run
abbrev pub LeavesOffice : ℕ → Option (List ℕ) → Option (List ℕ) → Option (List ℕ) → OfficeFault → Type 0
LeavesOffice number known before after e = IfSome known (λ script. IsOfficeLeft number script before after e)

-- a run: what was left in the source and its turns, before and after, and whether it has failed; what the sink has taken, before and
-- after, and whether it has failed; what the run answers
pub record IsOfficeRun {T : Type 0} (number : ℕ) (left left_after : Option (List ℕ)) (turns turns_after : ℕ) (source_failed : Bool)
    (taken taken_after : Option (List ℕ)) (sink_failed : Bool) (result : Result T OfficeFault) : Type 0 where
  pub report : OnOk result (ReportsOffice number left taken taken_after)
  pub all : OnOk result (IsAtEnd left_after)
  pub why : IfErr result (ExplainsOffice number left source_failed sink_failed)
  pub written : IfErr result (LeavesOffice number left taken taken_after)
  pub within : IsReadWithin turns turns_after
