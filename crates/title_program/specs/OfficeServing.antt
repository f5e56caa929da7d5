-- What serving the script of an office leaves.
use Rattle.std.specs.Prelude.{◌≢◌, ◌⊎◌, List, ℕ, Bool, Option}
use Rattle.title_script.specs.declared.fault.RunFault.TheVariants as fault
use Rattle.title_day.specs.{declared.office_fault.OfficeFault.{OfficeFault}, OfficeRuns.{ExplainsOffice, LeavesOffice, ReportsOffice}}
use Rattle.title_day.specs.declared.office_fault.OfficeFault.TheVariants as office
use Rattle.title_program.specs.{declared.status.Status.{Status, TheVariants.{Success, Failure, Misunderstood}}, Printing.{Prints}}
use Rattle.title_program.specs.Faults.{fault_line, of_office}

-- the output has failed
abbrev pub write_fault : OfficeFault
write_fault = office.Run fault.Write

-- the output has failed: nothing follows what the run left there
abbrev pub IsOfficeCut : ℕ → Option (List ℕ) → (source_failed sink_failed : Bool) → (before after : Option (List ℕ)) → Type 0
IsOfficeCut number known source_failed sink_failed before after =
    ExplainsOffice number known source_failed sink_failed write_fault × LeavesOffice number known before after write_fault

-- any other fault is told by its line, after what the run left
abbrev pub IsOfficeTold : ℕ → Option (List ℕ) → (source_failed sink_failed : Bool) → (before after : Option (List ℕ)) → Type 0
IsOfficeTold number known source_failed sink_failed before after =
    (e : OfficeFault) × (left : Option (List ℕ)) × (e ≢ write_fault)
    × ExplainsOffice number known source_failed sink_failed e × LeavesOffice number known before left e
    × Prints (fault_line (of_office e)) Failure left after sink_failed Failure

-- the script of an office of this number of examiners was served: a report of it was written, or the fault told why none was
abbrev pub IsOfficeServed : ℕ → Option (List ℕ) → (source_failed sink_failed : Bool) → (before after : Option (List ℕ)) → Status → Type 0
IsOfficeServed number known source_failed sink_failed before after Success = ReportsOffice number known before after
IsOfficeServed number known source_failed sink_failed before after Failure =
    IsOfficeCut number known source_failed sink_failed before after ⊎ IsOfficeTold number known source_failed sink_failed before after
IsOfficeServed number known source_failed sink_failed before after Misunderstood = ⊥
