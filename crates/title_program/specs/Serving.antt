-- What serving a script leaves.
use Rattle.std.specs.Prelude.{◌≢◌, ◌⊎◌, List, ℕ, Bool, Option}
use Rattle.title_plan.specs.declared.line.Schedule.{Schedule}
use Rattle.title_script.specs.{declared.fault.RunFault.{RunFault}, Runs.{Explains, LeavesWritten, Reports}}
use Rattle.title_script.specs.declared.fault.RunFault.TheVariants as fault
use Rattle.title_program.specs.{declared.status.Status.{Status, TheVariants.{Success, Failure, Misunderstood}}, Faults.{fault_line, of_run}}
use Rattle.title_program.specs.Printing.{Prints}

-- the output has failed: nothing follows what the run left there
abbrev pub IsCut : Schedule → Option (List ℕ) → (source_failed sink_failed : Bool) → (before after : Option (List ℕ)) → Type 0
IsCut sched known source_failed sink_failed before after =
    Explains sched known source_failed sink_failed fault.Write × LeavesWritten sched known before after fault.Write

-- any other fault is told by its line, after what the run left
abbrev pub IsTold : Schedule → Option (List ℕ) → (source_failed sink_failed : Bool) → (before after : Option (List ℕ)) → Type 0
IsTold sched known source_failed sink_failed before after =
    (e : RunFault) × (left : Option (List ℕ)) × (e ≢ fault.Write)
    × Explains sched known source_failed sink_failed e × LeavesWritten sched known before left e
    × Prints (fault_line (of_run e)) Failure left after sink_failed Failure

-- a script was served: its report was written, or the fault told why it wasn't
abbrev pub IsServed : Schedule → Option (List ℕ) → (source_failed sink_failed : Bool) → (before after : Option (List ℕ)) → Status → Type 0
IsServed sched known source_failed sink_failed before after Success = Reports sched known before after
IsServed sched known source_failed sink_failed before after Failure =
    IsCut sched known source_failed sink_failed before after ⊎ IsTold sched known source_failed sink_failed before after
IsServed sched known source_failed sink_failed before after Misunderstood = ⊥
