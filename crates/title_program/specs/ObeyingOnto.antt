-- What each command line makes the program do where there is a cabinet of plants' files.
use Rattle.std.specs.Prelude.{◌≡◌, ◌⊎◌, ℕ, List, ◌∷◌, Bool, Option, Result, Ok, Err}
use Rattle.title_disk.specs.declared.cabinet.OpenFault.{OpenFault}
use Rattle.title_plan.specs.declared.line.Schedule.{Schedule}
use Rattle.title_plan.specs.declared.line.Schedule.TheVariants as schedule
use Rattle.title_command.specs.declared.choice.{Line.{Line, TheVariants.{Kept, KeptDesk, KeptOffice, Look, LookDesk, Check}}, Work.{Work}}
use Rattle.title_command.specs.declared.choice.LineFault.{LineFault}
use Rattle.title_command.specs.declared.choice.Work.TheVariants as work
use Rattle.title_program.specs.{declared.status.Status.{Status}, Checking.{IsSeen, IsUnseen}, DeskKeeping.{IsKeptDeskServed}}
use Rattle.title_program.specs.{Keeping.{IsDayServed, IsOpenedAndServed, IsUnopened}, LookServing.{IsLookDeskServed, IsLookServed}}
use Rattle.title_program.specs.{OfficeKeeping.{IsKeptOfficeServed}, Obeying.{IsObeyed, IsRefused, ReadsFor}}

-- how the transactions of a script come that is kept
abbrev pub schedule_of : Work → Schedule
schedule_of work.Run = schedule.Interleaved
schedule_of work.Alone = schedule.Serial

-- the names that a cabinet was asked for once a command was carried out, the newest first: that of the command's file, once, before those
-- of before
abbrev pub asked_by : Line → List (List ℕ) → List (List ℕ)
asked_by (Kept plant after how) earlier = plant.now ∷ earlier
asked_by (KeptDesk plant) earlier = plant.now ∷ earlier
asked_by (KeptOffice plant after examiners tries) earlier = plant.now ∷ earlier
asked_by (Look plant after) earlier = plant.now ∷ earlier
asked_by (LookDesk plant) earlier = plant.now ∷ earlier
asked_by (Check file as_script) earlier = file.now ∷ earlier
asked_by line earlier = earlier

-- words that are no command ask for no file
abbrev pub Asks : Result Line LineFault → (names names_after : List (List ℕ)) → Type 0
Asks (Ok line) names names_after = names_after ≡ asked_by line names
Asks (Err why) names names_after = names_after ≡ names

-- A file of the cabinet is seen by its name, by its bytes, by what a crash may leave of it, by its moment, by what a crash since one might
-- have left, and by whether it has failed. Of a name it is known how its file may be refused.
module _ {D : Type 0} (seen : D → List ℕ) (may_leave : D → List ℕ → Type 0) (moment : D → ℕ) (left_since : D → ℕ → List ℕ → Type 0)
    (has_failed : D → Bool) (name : D → List ℕ) (refuses : List ℕ → OpenFault → Type 0) where
  -- a script that is kept was served on top of the file of this name, or that was refused
  abbrev pub IsKeptServed : (plant : List ℕ) → Schedule → Option ℕ → (left left_after : Option (List ℕ)) → (turns turns_after : ℕ)
      → (taken taken_after : Option (List ℕ)) → (source_failed sink_failed : Bool) → (cut : ℕ) → Status → Type 0
  IsKeptServed plant sched after left left_after turns turns_after taken taken_after source_failed sink_failed cut status =
      IsUnopened (refuses plant) left left_after taken taken_after sink_failed cut status
      ⊎ IsOpenedAndServed name plant (λ file. IsDayServed seen may_leave moment left_since has_failed file sched after left left_after
      turns turns_after taken taken_after source_failed sink_failed cut status)

-- A file that is shared is seen in the same way, and one that is only looked at by what may be read of its name.
module _ {D : Type 0} (seen : D → List ℕ) (may_leave : D → List ℕ → Type 0) (moment : D → ℕ) (left_since : D → ℕ → List ℕ → Type 0)
    (has_failed : D → Bool) (name : D → List ℕ) {S : Type 0} (shared_seen : S → List ℕ) (shared_may_leave : S → List ℕ → Type 0)
    (shared_moment : S → ℕ) (shared_left_since : S → ℕ → List ℕ → Type 0) (shared_has_failed : S → Bool) (shared_name : S → List ℕ)
    (refuses : List ℕ → OpenFault → Type 0) (shows : List ℕ → List ℕ → Type 0) where
  -- the command was carried out, and so much of the source was read; only what is kept cuts bytes off
  abbrev pub IsObeyedOnto : Line → (left left_after : Option (List ℕ)) → (turns turns_after : ℕ) → (taken taken_after : Option (List ℕ))
      → (source_failed sink_failed : Bool) → (cut : ℕ) → Status → Type 0
  IsObeyedOnto (Kept plant after how) left left_after turns turns_after taken taken_after source_failed sink_failed cut status =
      IsKeptServed seen may_leave moment left_since has_failed name refuses plant.now (schedule_of how) after left left_after turns
      turns_after taken taken_after source_failed sink_failed cut status
  IsObeyedOnto (KeptDesk plant) left left_after turns turns_after taken taken_after source_failed sink_failed cut status =
      IsKeptDeskServed seen may_leave moment left_since has_failed name refuses plant.now left left_after taken taken_after source_failed
      sink_failed cut status
  IsObeyedOnto (KeptOffice plant after examiners tries) left left_after turns turns_after taken taken_after source_failed sink_failed cut
      status =
      IsKeptOfficeServed seen may_leave moment left_since has_failed name refuses plant.now examiners after left left_after turns
      turns_after taken taken_after source_failed sink_failed cut status
  IsObeyedOnto (Look plant after) left left_after turns turns_after taken taken_after source_failed sink_failed cut status =
      IsLookServed shared_seen shared_may_leave shared_moment shared_left_since shared_has_failed shared_name refuses plant.now after left
      left_after turns turns_after taken taken_after source_failed sink_failed cut status
  IsObeyedOnto (LookDesk plant) left left_after turns turns_after taken taken_after source_failed sink_failed cut status =
      IsLookDeskServed shared_seen shared_may_leave shared_moment shared_left_since shared_has_failed shared_name refuses plant.now left
      left_after taken taken_after source_failed sink_failed cut status
  IsObeyedOnto (Check file as_script) left left_after turns turns_after taken taken_after source_failed sink_failed cut status =
      (IsUnseen (refuses file.now) taken taken_after sink_failed status
      ⊎ IsSeen (shows file.now) as_script taken taken_after sink_failed status)
      × (left_after ≡ left) × (cut ≡ 0)
  IsObeyedOnto line left left_after turns turns_after taken taken_after source_failed sink_failed cut status =
      IsObeyed line left left_after source_failed sink_failed taken taken_after status × ReadsFor line left left_after status × (cut ≡ 0)

  -- what was asked for was done, or refused
  abbrev pub IsAnsweredOnto : Result Line LineFault → (left left_after : Option (List ℕ)) → (turns turns_after : ℕ)
      → (taken taken_after : Option (List ℕ)) → (source_failed sink_failed : Bool) → (cut : ℕ) → Status → Type 0
  IsAnsweredOnto (Ok line) left left_after turns turns_after taken taken_after source_failed sink_failed cut status =
      IsObeyedOnto line left left_after turns turns_after taken taken_after source_failed sink_failed cut status
  IsAnsweredOnto (Err why) left left_after turns turns_after taken taken_after source_failed sink_failed cut status =
      IsRefused why taken taken_after sink_failed status × (left_after ≡ left) × (cut ≡ 0)
