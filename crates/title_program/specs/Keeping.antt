-- What serving a script on top of a plant's file leaves. A file is seen by its name, by its bytes, by what a crash may leave of it, and by
-- what a crash since an earlier moment might have left.
use Rattle.std.specs.Prelude.{◌≡◌, ◌⊎◌, ℕ, List, Bool, Option, Result, Ok, Err}
use Rattle.title_disk.specs.{Crashes.{LeavesOnly, Only}, declared.cabinet.OpenFault.{OpenFault}}
use Rattle.title_plan.specs.declared.line.Schedule.{Schedule}
use Rattle.title_lasting.specs.{declared.fault.LastingFault.{LastingFault}, Lastings.{Lasting}, Openings.{cut_in}}
use Rattle.title_lasting.specs.declared.fault.LastingFault.TheVariants as fault
use Rattle.title_program.specs.{declared.status.Status.{Status, TheVariants.{Success, Failure}}, Faults.{fault_line, of_lasting, of_open}}
use Rattle.title_program.specs.Printing.{Prints, TellsFault}

-- the file of this name was opened, and served so
pub record IsOpenedAndServed {D : Type 0} (name : D → List ℕ) (plant : List ℕ) (IsServed : D → Type 0) : Type 0 where
  pub file : D
  pub named : name file ≡ plant
  pub served : IsServed file

-- a file was refused for a reason that it may be refused for: its fault is told, and the source isn't read
pub record IsUnopened (refuses : OpenFault → Type 0) (left left_after : Option (List ℕ)) (before after : Option (List ℕ))
    (sink_failed : Bool) (cut : ℕ) (status : Status) : Type 0 where
  pub fault : OpenFault
  pub refused : refuses fault
  pub told : TellsFault (of_open fault) before after sink_failed status
  pub unread : left_after ≡ left
  pub uncut : cut ≡ 0

-- nothing follows what the run left on the output, where its report was written or the output has failed; else the fault is told by its
-- line behind that, or want of memory in its place, but for a script that may count or not
abbrev pub EndsBy : {T : Type 0} → Result T LastingFault → (before after : Option (List ℕ)) → (then_failed sink_failed : Bool) → Status
    → Type 0
EndsBy (Ok answer) before after then_failed sink_failed status = (after ≡ before) × (sink_failed ≡ then_failed) × (status ≡ Success)
EndsBy (Err fault.Write) before after then_failed sink_failed status =
    (after ≡ before) × (sink_failed ≡ then_failed) × (status ≡ Failure)
EndsBy (Err fault.Unsure) before after then_failed sink_failed status =
    Prints (fault_line (of_lasting fault.Unsure)) Failure before after sink_failed status
EndsBy (Err e) before after then_failed sink_failed status = TellsFault (of_lasting e) before after sink_failed status

-- A file that was opened had all of it on the disk, and the source's script was served on top of what stood in it.
pub record IsDayServed {D : Type 0} (seen : D → List ℕ) (may_leave : D → List ℕ → Type 0) (moment : D → ℕ)
    (left_since : D → ℕ → List ℕ → Type 0) (has_failed : D → Bool) (old : D) (sched : Schedule) (after : Option ℕ)
    (left left_after : Option (List ℕ)) (turns turns_after : ℕ) (taken taken_after : Option (List ℕ)) (source_failed sink_failed : Bool)
    (cut : ℕ) (status : Status) : Type 0 where
  pub new : D
  pub opened : Only (seen old) (may_leave old)
  -- what the output had taken at the end of the run, and whether it had failed
  pub written : Option (List ℕ)
  pub then_failed : Bool
  pub outcome : Result (Unit {0}) LastingFault
  pub lasting : Lasting sched after (seen old) (seen new) (may_leave new) (LeavesOnly moment left_since old new) left left_after turns
      turns_after taken written (has_failed new) source_failed then_failed outcome
  pub told : EndsBy outcome written taken_after then_failed sink_failed status
  -- so many bytes at the end of the file didn't count and were cut off
  pub cut_off : (cut ≡ cut_in (seen old)) ⊎ (cut ≡ 0)
