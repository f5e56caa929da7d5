-- What looks at a plant's file leave. A file is seen by its name, by its bytes, by what a crash may leave of it, and by what a crash since
-- an earlier moment might have left.
use Rattle.std.specs.Prelude.{◌≡◌, ◌⊎◌, ℕ, List, Bool, Option, Result}
use Rattle.title_disk.specs.{Crashes.{LeavesOnly}, declared.cabinet.OpenFault.{OpenFault}}
use Rattle.title_lasting.specs.{declared.fault.LastingFault.{LastingFault}, Looks.{Looking}}
use Rattle.title_kept_desk.specs.LookDesks.{LookingDesk}
use Rattle.title_program.specs.{declared.status.Status.{Status}, Keeping.{EndsBy, IsOpenedAndServed, IsUnopened}}

module _ {D : Type 0} (seen : D → List ℕ) (may_leave : D → List ℕ → Type 0) (moment : D → ℕ) (left_since : D → ℕ → List ℕ → Type 0)
    (has_failed : D → Bool) where
  -- A file was shared, and the source's script was served on top of what stood in it.
  pub record IsLookTaken (old : D) (after : Option ℕ) (left left_after : Option (List ℕ)) (turns turns_after : ℕ)
      (taken taken_after : Option (List ℕ)) (source_failed sink_failed : Bool) (cut : ℕ) (status : Status) : Type 0 where
    pub new : D
    -- what the output had taken at the end of the look, and whether it had failed
    pub written : Option (List ℕ)
    pub then_failed : Bool
    pub outcome : Result (Unit {0}) LastingFault
    pub looking : Looking after (seen old) (seen new) (may_leave old) (may_leave new) (LeavesOnly moment left_since old new) left left_after
        turns turns_after taken written (has_failed new) source_failed then_failed outcome
    pub told : EndsBy outcome written taken_after then_failed sink_failed status
    pub uncut : cut ≡ 0

  -- so was the file of this name, or it was refused
  abbrev pub IsLookServed : (name : D → List ℕ) → (refuses : List ℕ → OpenFault → Type 0) → (plant : List ℕ) → (after : Option ℕ)
      → (left left_after : Option (List ℕ)) → (turns turns_after : ℕ) → (taken taken_after : Option (List ℕ))
      → (source_failed sink_failed : Bool) → (cut : ℕ) → Status → Type 0
  IsLookServed name refuses plant after left left_after turns turns_after taken taken_after source_failed sink_failed cut status =
      IsUnopened (refuses plant) left left_after taken taken_after sink_failed cut status
      ⊎ IsOpenedAndServed name plant
      (λ file. IsLookTaken file after left left_after turns turns_after taken taken_after source_failed sink_failed cut status)

  -- A file was shared, and the source's rows were answered as looks on top of what stood in it.
  pub record IsLookSat (old : D) (left left_after taken taken_after : Option (List ℕ)) (source_failed sink_failed : Bool) (cut : ℕ)
      (status : Status) : Type 0 where
    pub new : D
    pub written : Option (List ℕ)
    pub then_failed : Bool
    pub outcome : Result (Unit {0}) LastingFault
    pub desk : LookingDesk (seen old) (seen new) (may_leave old) (may_leave new) (LeavesOnly moment left_since old new) left left_after
        taken written (has_failed new) source_failed then_failed outcome
    pub told : EndsBy outcome written taken_after then_failed sink_failed status
    pub uncut : cut ≡ 0

  -- so was the file of this name, or it was refused
  abbrev pub IsLookDeskServed : (name : D → List ℕ) → (refuses : List ℕ → OpenFault → Type 0) → (plant : List ℕ)
      → (left left_after taken taken_after : Option (List ℕ)) → (source_failed sink_failed : Bool) → (cut : ℕ) → Status → Type 0
  IsLookDeskServed name refuses plant left left_after taken taken_after source_failed sink_failed cut status =
      IsUnopened (refuses plant) left left_after taken taken_after sink_failed cut status
      ⊎ IsOpenedAndServed name plant
      (λ file. IsLookSat file left left_after taken taken_after source_failed sink_failed cut status)
