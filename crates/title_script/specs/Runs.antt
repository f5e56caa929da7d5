-- What a run of a script does, as a whole. Each says nothing where the script's bytes are not known.
use Rattle.std.specs.Prelude.{◌≡◌, ◌≤◌, ◌+◌, ◌<◌, ◌⊎◌, ℕ, List, Bool, true, Option, IfSome, Result, Ok, Err, IfErr, OnOk, take, length}
use Rattle.std.specs.Io.KnownBytes.{Appends, IsAtEnd, Keeps}
use Rattle.title_device.specs.Limits.{most_bytes}
use Rattle.title_plan.specs.declared.fault.ScriptFault.TheVariants as script_fault
use Rattle.title_plan.specs.declared.line.Schedule.{Schedule}
use Rattle.title_script.specs.{declared.fault.RunFault.{RunFault}, Reports.{report_of}}
use Rattle.title_script.specs.declared.fault.RunFault.TheVariants as fault

-- the report of the script was written, and nothing else
abbrev pub Reports : Schedule → Option (List ℕ) → Option (List ℕ) → Option (List ℕ) → Type 0
Reports sched known before after =
    IfSome known (λ script. (report : List ℕ) × (report_of sched script ≡ Ok report) × Appends before after report)

-- why a run of a script fails: the script's first fault, or its source, or its length, or its sink
abbrev pub IsCause : Schedule → List ℕ → (source_failed sink_failed : Bool) → RunFault → Type 0
IsCause sched script source_failed sink_failed (fault.Row n) = report_of sched script ≡ Err (script_fault.Row n)
IsCause sched script source_failed sink_failed (fault.Order n) = report_of sched script ≡ Err (script_fault.Order n)
IsCause sched script source_failed sink_failed (fault.Party n) = report_of sched script ≡ Err (script_fault.Party n)
IsCause sched script source_failed sink_failed fault.Read = (source_failed ≡ true) ⊎ (most_bytes < length script)
IsCause sched script source_failed sink_failed fault.Write = sink_failed ≡ true
IsCause sched script source_failed sink_failed fault.Memory = Unit {0}

-- the fault of a run tells why it failed
abbrev pub Explains : Schedule → Option (List ℕ) → (source_failed sink_failed : Bool) → RunFault → Type 0
Explains sched known source_failed sink_failed e = IfSome known (λ script. IsCause sched script source_failed sink_failed e)

-- what a failed run of a script leaves: nothing written, and after a fault of the sink a beginning of the report
abbrev pub IsLeft : Schedule → List ℕ → Option (List ℕ) → Option (List ℕ) → RunFault → Type 0
IsLeft sched script before after fault.Write =
    (report : List ℕ) × (n : ℕ) × (report_of sched script ≡ Ok report) × Appends before after (take n report)
IsLeft sched script before after _ = Keeps before after

-- what stands written after the fault of a run
abbrev pub LeavesWritten : Schedule → Option (List ℕ) → Option (List ℕ) → Option (List ℕ) → RunFault → Type 0
LeavesWritten sched known before after e = IfSome known (λ script. IsLeft sched script before after e)

-- a script is read in at most so many turns as it may have bytes, and one more
abbrev pub IsReadWithin : (before after : ℕ) → Type 0
IsReadWithin before after = after ≤ before + most_bytes + 1

-- a run: what was left in the source and its turns, before and after, and whether it has failed; what the sink has taken, before and
-- after, and whether it has failed; what the run answers
pub record IsRun {T : Type 0} (sched : Schedule) (left left_after : Option (List ℕ)) (turns turns_after : ℕ) (source_failed : Bool)
    (taken taken_after : Option (List ℕ)) (sink_failed : Bool) (result : Result T RunFault) : Type 0 where
  pub report : OnOk result (Reports sched left taken taken_after)
  pub all : OnOk result (IsAtEnd left_after)
  pub why : IfErr result (Explains sched left source_failed sink_failed)
  pub written : IfErr result (LeavesWritten sched left taken taken_after)
  pub within : IsReadWithin turns turns_after
