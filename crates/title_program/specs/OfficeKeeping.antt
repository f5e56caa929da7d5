-- What serving the script of an office on top of a plant's file leaves. A file is seen by its name, by its bytes, by what a crash may
-- leave of it, and by what a crash since an earlier moment might have left.
use Rattle.std.specs.Prelude.{◌≡◌, ◌⊎◌, ℕ, List, Bool, Option, Result, Ok, Err}
use Rattle.title_disk.specs.{Crashes.{LeavesOnly, Only}, declared.cabinet.OpenFault.{OpenFault}}
use Rattle.title_kept_office.specs.{declared.fault.KeptOfficeFault.{KeptOfficeFault}, OfficeLastings.{LastingOffice}}
use Rattle.title_kept_office.specs.declared.fault.KeptOfficeFault.TheVariants as kept
use Rattle.title_lasting.specs.Openings.{cut_in}
use Rattle.title_program.specs.{declared.status.Status.{Status, TheVariants.{Success}}, Faults.{of_unsettled, of_worker}}
use Rattle.title_program.specs.{Keeping.{EndsBy, IsOpenedAndServed, IsUnopened}, Printing.{TellsFault}}

-- the fault is told by its line behind what the run left, as that of any script on top of a file is
abbrev pub FailsBy : KeptOfficeFault → (before after : Option (List ℕ)) → (then_failed sink_failed : Bool) → Status → Type 0
FailsBy (kept.Kept e) before after then_failed sink_failed status =
    EndsBy {T = Unit {0}} (Err e) before after then_failed sink_failed status
FailsBy (kept.Worker why) before after then_failed sink_failed status = TellsFault (of_worker why) before after sink_failed status
FailsBy (kept.Unsettled why) before after then_failed sink_failed status = TellsFault (of_unsettled why) before after sink_failed status

-- nothing follows what the run left on the output where its report was written
abbrev pub OfficeEndsBy : {T : Type 0} → Result T KeptOfficeFault → (before after : Option (List ℕ)) → (then_failed sink_failed : Bool)
    → Status → Type 0
OfficeEndsBy (Ok answer) before after then_failed sink_failed status =
    (after ≡ before) × (sink_failed ≡ then_failed) × (status ≡ Success)
OfficeEndsBy (Err e) before after then_failed sink_failed status = FailsBy e before after then_failed sink_failed status

module _ {D : Type 0} (seen : D → List ℕ) (may_leave : D → List ℕ → Type 0) (moment : D → ℕ) (left_since : D → ℕ → List ℕ → Type 0)
    (has_failed : D → Bool) where
  -- A file that was opened had all of it on the disk, and the source's script was served by an office on top of what stood in it.
  pub record IsOfficeDayServed (old : D) (examiners : ℕ) (after : Option ℕ) (left left_after : Option (List ℕ)) (turns turns_after : ℕ)
      (taken taken_after : Option (List ℕ)) (source_failed sink_failed : Bool) (cut : ℕ) (status : Status) : Type 0 where
    pub new : D
    pub opened : Only (seen old) (may_leave old)
    -- what the output had taken at the end of the run, and whether it had failed
    pub written : Option (List ℕ)
    pub then_failed : Bool
    pub outcome : Result (Unit {0}) KeptOfficeFault
    pub lasting : LastingOffice examiners after (seen old) (seen new) (may_leave new) (LeavesOnly moment left_since old new) left
        left_after turns turns_after taken written (has_failed new) source_failed then_failed outcome
    pub told : OfficeEndsBy outcome written taken_after then_failed sink_failed status
    -- so many bytes at the end of the file didn't count and were cut off
    pub cut_off : (cut ≡ cut_in (seen old)) ⊎ (cut ≡ 0)

  -- so was the file of this name, or it was refused
  abbrev pub IsKeptOfficeServed : (name : D → List ℕ) → (refuses : List ℕ → OpenFault → Type 0) → (plant : List ℕ) → (examiners : ℕ)
      → (after : Option ℕ) → (left left_after : Option (List ℕ)) → (turns turns_after : ℕ) → (taken taken_after : Option (List ℕ))
      → (source_failed sink_failed : Bool) → (cut : ℕ) → Status → Type 0
  IsKeptOfficeServed name refuses plant examiners after left left_after turns turns_after taken taken_after source_failed sink_failed cut
      status =
      IsUnopened (refuses plant) left left_after taken taken_after sink_failed cut status
      ⊎ IsOpenedAndServed name plant (λ file. IsOfficeDayServed file examiners after left left_after turns turns_after taken taken_after
      source_failed sink_failed cut status)
