-- What serving rows at a desk on top of a plant's file leaves. A file is seen by its name, by its bytes, by what a crash may leave of it,
-- and by what a crash since an earlier moment might have left.
use Rattle.std.specs.Prelude.{◌≡◌, ◌⊎◌, ℕ, List, Bool, Option, Result}
use Rattle.title_disk.specs.{Crashes.{LeavesOnly, Only}, declared.cabinet.OpenFault.{OpenFault}}
use Rattle.title_lasting.specs.{declared.fault.LastingFault.{LastingFault}, Openings.{cut_in}}
use Rattle.title_kept_desk.specs.Desks.{LastingDesk}
use Rattle.title_program.specs.{declared.status.Status.{Status}, Keeping.{EndsBy, IsOpenedAndServed, IsUnopened}}

module _ {D : Type 0} (seen : D → List ℕ) (may_leave : D → List ℕ → Type 0) (moment : D → ℕ) (left_since : D → ℕ → List ℕ → Type 0)
    (has_failed : D → Bool) where
  -- A file that was opened had all of it on the disk, and the source's rows were served on top of what stood in it.
  pub record IsSittingServed (old : D) (left left_after taken taken_after : Option (List ℕ)) (source_failed sink_failed : Bool) (cut : ℕ)
      (status : Status) : Type 0 where
    pub new : D
    pub opened : Only (seen old) (may_leave old)
    -- what the output had taken with the last answer, and whether it had failed
    pub written : Option (List ℕ)
    pub then_failed : Bool
    pub outcome : Result (Unit {0}) LastingFault
    pub desk : LastingDesk (seen old) (seen new) (may_leave new) (LeavesOnly moment left_since old new) left left_after taken written
        (has_failed new) source_failed then_failed outcome
    pub told : EndsBy outcome written taken_after then_failed sink_failed status
    -- so many bytes at the end of the file didn't count and were cut off
    pub cut_off : (cut ≡ cut_in (seen old)) ⊎ (cut ≡ 0)

  -- so was the file of this name, or it was refused
  abbrev pub IsKeptDeskServed : (name : D → List ℕ) → (refuses : List ℕ → OpenFault → Type 0) → (plant : List ℕ)
      → (left left_after taken taken_after : Option (List ℕ)) → (source_failed sink_failed : Bool) → (cut : ℕ) → Status → Type 0
  IsKeptDeskServed name refuses plant left left_after taken taken_after source_failed sink_failed cut status =
      IsUnopened (refuses plant) left left_after taken taken_after sink_failed cut status
      ⊎ IsOpenedAndServed name plant
      (λ file. IsSittingServed file left left_after taken taken_after source_failed sink_failed cut status)
