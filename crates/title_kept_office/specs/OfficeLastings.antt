-- What a run of an office's script on top of a plant's file does, as a whole. A file is seen by its bytes, before and after; by what a
-- crash may leave of it after; and by what a crash at any moment of the run leaves.
use Rattle.std.specs.{Prelude.{◌≡◌, ℕ, List, Bool, Option, Ok, Result, IfErr, OnOk}, Io.KnownBytes.{Appends, IsAtEnd, Keeps}}
use Rattle.title_land.specs.Depth.{depth}
use Rattle.title_chain.specs.Alone.{IsSerial}
use Rattle.title_disk.specs.Crashes.{LeavesOnly, Only}
use Rattle.title_journal.specs.Rest.{StandsAlike}
use Rattle.title_plan.specs.{Asked.{Asked}, Onto.{script_onto}}
use Rattle.title_plan.specs.declared.line.Schedule.TheVariants as schedule
use Rattle.title_script.specs.Runs.{IsReadWithin}
use Rattle.title_daybook.specs.{Files.{IsPlant}, Standing.{Standing}}
use Rattle.title_lasting.specs.{Days.{declared_in}, Lastings.{Begins, IsCause, IsExpected, IsLeft, Stays}, Openings.{IsResting, StandsAs}}
use Rattle.title_lasting.specs.declared.fault.LastingFault.TheVariants as fault
use Rattle.title_kept_office.specs.declared.fault.KeptOfficeFault.{KeptOfficeFault, TheVariants.{Kept, Worker, Unsettled}}
use Rattle.title_kept_office.specs.OfficeDays.{IsEither, IsOfficeServed, OfficeDay, report_of, stands_after}

-- The day counts, whole: what stands after it is on the disk, a crash at any moment left that or what stood before, a file at rest has its
-- bytes still where the day adds nothing, and of the report so much was told.
pub record OfficeCounts (number : ℕ) (after : Option ℕ) (file file_after : List ℕ) (may_leave : List ℕ → Type 0)
    (leaves : (List ℕ → Type 0) → Type 0) (left : Option (List ℕ)) (Told : List ℕ → Type 0) : Type 0 where
  pub day : OfficeDay
  pub served : IsOfficeServed number after file left day
  pub stands : IsPlant file_after (stands_after day)
  pub durable : Only file_after may_leave
  pub any_moment : leaves (IsEither day)
  pub quiet : IsResting file → stands_after day ≡ day.before → file_after ≡ file
  pub report : Told (report_of day)

-- The day counts, or it doesn't; whoever opens the file sees it.
pub record IsOfficeUnsure (number : ℕ) (after : Option ℕ) (file : List ℕ) (leaves : (List ℕ → Type 0) → Type 0)
    (left : Option (List ℕ)) : Type 0 where
  pub day : OfficeDay
  pub served : IsOfficeServed number after file left day
  pub any_moment : leaves (IsEither day)

-- what a run leaves that was stopped: nothing is written, but for a beginning of the report where the sink failed, and then the day
-- counts; it may count where the disk failed at the end; after every other fault what stood stands, and a file that is no plant has its
-- bytes
abbrev pub LeavesOffice : (number : ℕ) → Option ℕ → (file file_after : List ℕ) → (may_leave : List ℕ → Type 0)
    → (leaves : (List ℕ → Type 0) → Type 0) → (left taken taken_after : Option (List ℕ)) → KeptOfficeFault → Type 0
LeavesOffice number after file file_after may_leave leaves left taken taken_after (Kept fault.Write) =
    OfficeCounts number after file file_after may_leave leaves left (Begins taken taken_after)
LeavesOffice number after file file_after may_leave leaves left taken taken_after (Kept fault.Unsure) =
    IsOfficeUnsure number after file leaves left × Keeps taken taken_after
LeavesOffice number after file file_after may_leave leaves left taken taken_after (Kept fault.Disk) =
    leaves (StandsAs file) × Keeps taken taken_after
LeavesOffice number after file file_after may_leave leaves left taken taken_after (Kept (fault.NotAPlant row)) =
    Stays file file_after may_leave leaves × (file_after ≡ file) × Keeps taken taken_after
LeavesOffice number after file file_after may_leave leaves left taken taken_after _ =
    Stays file file_after may_leave leaves × Keeps taken taken_after

-- the script can be served on top of what stood, where the last place is the expected one
pub record CanServeOn (number : ℕ) (after : Option ℕ) (file : List ℕ) (left : Option (List ℕ)) : Type 0 where
  pub stood : Standing
  pub plant : IsPlant file stood
  pub expected : IsExpected after stood
  pub script : List ℕ
  pub read : IsLeft left script
  pub asked : Asked
  pub asks : script_onto (schedule.Office number) (declared_in stood) script ≡ Ok asked
  pub joined : IsSerial depth asked.townships stood.records

-- why a run is stopped: as any script's is; or it could be served, and a worker has ended with a fault, or the office can't be settled
abbrev pub IsOfficeCause : (number : ℕ) → Option ℕ → (file : List ℕ) → (left : Option (List ℕ))
    → (disk_failed source_failed sink_failed : Bool) → KeptOfficeFault → Type 0
IsOfficeCause number after file left disk_failed source_failed sink_failed (Kept e) =
    IsCause (schedule.Office number) after file left disk_failed source_failed sink_failed e
IsOfficeCause number after file left disk_failed source_failed sink_failed (Worker why) = CanServeOn number after file left
IsOfficeCause number after file left disk_failed source_failed sink_failed (Unsettled why) = CanServeOn number after file left

-- A run of an office: the file, before and after, what a crash may leave of it, and what a crash at any moment of the run left; what was
-- left in the source and its turns, before and after; what the sink has taken, before and after; which of the three have failed; and what
-- the run answers.
pub record LastingOffice {T : Type 0} (number : ℕ) (after : Option ℕ) (file file_after : List ℕ) (may_leave : List ℕ → Type 0)
    (leaves : (List ℕ → Type 0) → Type 0) (left left_after : Option (List ℕ)) (turns turns_after : ℕ)
    (taken taken_after : Option (List ℕ)) (disk_failed source_failed sink_failed : Bool) (result : Result T KeptOfficeFault)
    : Type 0 where
  -- with Ok the day counts, and its report was written, and nothing else
  pub counts : OnOk result (OfficeCounts number after file file_after may_leave leaves left (Appends taken taken_after))
  -- with Err nothing was lost, and nothing was told that doesn't count
  pub stopped : IfErr result (LeavesOffice number after file file_after may_leave leaves left taken taken_after)
  -- and the fault says why
  pub why : IfErr result (IsOfficeCause number after file left disk_failed source_failed sink_failed)
  -- the script was read to its end, in no more turns than a script may take
  pub all : OnOk result (IsAtEnd left_after)
  pub within : IsReadWithin turns turns_after

-- a file was brought to rest: the same blocks stand in it, at each moment, and one at rest has its bytes
pub record CameToRest {D : Type 0} (seen : D → List ℕ) (moment : D → ℕ) (left_since : D → ℕ → List ℕ → Type 0) (old now : D) : Type 0 where
  pub alike : StandsAlike (seen old) (seen now)
  pub leaves : LeavesOnly moment left_since old now (StandsAlike (seen old))
  pub resting : IsResting (seen old) → seen now ≡ seen old
