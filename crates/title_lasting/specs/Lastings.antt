-- What a run of a script on top of a plant's file does, as a whole. A file is seen by its bytes, before and after; by what a crash may
-- leave of it after; and by what a crash at any moment of the run leaves.
use Rattle.std.specs.{Prelude.{◌≡◌, ◌≢◌, ◌⊎◌, ◌<◌, ◌++◌, ℕ, List, Bool, true}, Io.KnownBytes.{Appends, IsAtEnd, Keeps}}
use Rattle.std.specs.Prelude.{Option, Some, IfSome, Result, Ok, Err, IfErr, OnOk, length, take}
use Rattle.title_chain.specs.declared.record.Record.{Record}
use Rattle.title_device.specs.Limits.{most_bytes}
use Rattle.title_disk.specs.Crashes.{Only}
use Rattle.title_store.specs.Plants.{Plant}
use Rattle.title_trace.specs.Trace.{committed}
use Rattle.title_desk.specs.Headline.{Headline}
use Rattle.title_plan.specs.{Asked.{Asked}, declared.{fault.ScriptFault.{ScriptFault}, line.Schedule.{Schedule}}, Onto.{script_onto}}
use Rattle.title_plan.specs.declared.fault.ScriptFault.TheVariants as script_fault
use Rattle.title_script.specs.Runs.{IsReadWithin}
use Rattle.title_daybook.specs.{Files.{IsPlant}, Standing.{Standing}}
use Rattle.title_lasting.specs.Days.{Day, IsBeforeOrAfter, IsDay, declared_in, evening, report_on_day, setting_on, stands_after}
use Rattle.title_lasting.specs.{Openings.{IsNoPlant, IsResting, StandsAs}, Refusals.{IsFirstRefused}}
use Rattle.title_lasting.specs.declared.fault.LastingFault.{LastingFault}
use Rattle.title_lasting.specs.declared.fault.LastingFault.TheVariants as fault

-- ---- days

-- a script is the one that was left in the source, where that is known
abbrev pub IsLeft : Option (List ℕ) → List ℕ → Type 0
IsLeft left script = IfSome left (λ bytes. script ≡ bytes)

-- the last place is the expected one, where one is expected
abbrev pub IsExpected : Option ℕ → Standing → Type 0
IsExpected after s = IfSome after (λ place. place ≡ length s.records)

-- The day was served: the source had its script, it goes on from what stood, and the headline is true of it.
pub record IsServed (sched : Schedule) (after : Option ℕ) (file : List ℕ) (left : Option (List ℕ)) (d : Day) : Type 0 where
  pub script : List ℕ
  pub read : IsLeft left script
  pub is_day : IsDay sched file script d
  pub expected : IsExpected after d.before
  pub goes_on : (news : List Record) × (committed (evening d) ≡ news ++ d.before.records)
  pub headline : (content : Plant) × Headline (setting_on d) (evening d) content (committed (evening d))

-- The day counts: what stands after it is on the disk, a crash at any moment left that or what stood before, a file at rest has its bytes
-- still where the day adds nothing, and of the report so much was told.
pub record Counts (sched : Schedule) (after : Option ℕ) (file file_after : List ℕ) (may_leave : List ℕ → Type 0)
    (leaves : (List ℕ → Type 0) → Type 0) (left : Option (List ℕ)) (Told : List ℕ → Type 0) : Type 0 where
  pub day : Day
  pub served : IsServed sched after file left day
  pub stands : IsPlant file_after (stands_after day)
  pub durable : Only file_after may_leave
  pub any_moment : leaves (IsBeforeOrAfter day)
  pub quiet : IsResting file → stands_after day ≡ day.before → file_after ≡ file
  pub report : Told (report_on_day day)

-- The day counts, or it doesn't; whoever opens the file sees it.
pub record IsUnsure (sched : Schedule) (after : Option ℕ) (file : List ℕ) (leaves : (List ℕ → Type 0) → Type 0) (left : Option (List ℕ))
    : Type 0 where
  pub day : Day
  pub served : IsServed sched after file left day
  pub any_moment : leaves (IsBeforeOrAfter day)

-- What stood stands, and is on the disk; a crash at any moment left it.
pub record Stays (file file_after : List ℕ) (may_leave : List ℕ → Type 0) (leaves : (List ℕ → Type 0) → Type 0) : Type 0 where
  pub stands : StandsAs file file_after
  pub durable : Only file_after may_leave
  pub any_moment : leaves (StandsAs file)

-- ---- faults

-- a beginning of a text was written
abbrev pub Begins : Option (List ℕ) → Option (List ℕ) → List ℕ → Type 0
Begins taken taken_after text = (n : ℕ) × Appends taken taken_after (take n text)

-- what a run leaves that was stopped: nothing is written, but for a beginning of the report where the sink failed, and then the day
-- counts; it may count where the disk failed at the end; after every other fault what stood stands, and a file that is no plant has its
-- bytes
abbrev pub Leaves : Schedule → Option ℕ → (file file_after : List ℕ) → (may_leave : List ℕ → Type 0)
    → (leaves : (List ℕ → Type 0) → Type 0) → (left taken taken_after : Option (List ℕ)) → LastingFault → Type 0
Leaves sched after file file_after may_leave leaves left taken taken_after fault.Write =
    Counts sched after file file_after may_leave leaves left (Begins taken taken_after)
Leaves sched after file file_after may_leave leaves left taken taken_after fault.Unsure =
    IsUnsure sched after file leaves left × Keeps taken taken_after
Leaves sched after file file_after may_leave leaves left taken taken_after fault.Disk = leaves (StandsAs file) × Keeps taken taken_after
Leaves sched after file file_after may_leave leaves left taken taken_after (fault.NotAPlant row) =
    Stays file file_after may_leave leaves × (file_after ≡ file) × Keeps taken taken_after
Leaves sched after file file_after may_leave leaves left taken taken_after _ =
    Stays file file_after may_leave leaves × Keeps taken taken_after

-- the source's script is at fault on top of what stood, where the last place is the expected one
pub record Refuses (sched : Schedule) (after : Option ℕ) (file : List ℕ) (left : Option (List ℕ)) (e : ScriptFault) : Type 0 where
  pub stood : Standing
  pub plant : IsPlant file stood
  pub expected : IsExpected after stood
  pub script : List ℕ
  pub read : IsLeft left script
  pub first_fault : script_onto sched (declared_in stood) script ≡ Err e

-- the source's script declares townships under which the record in this place can't stand
pub record IsRefusedJoin (sched : Schedule) (after : Option ℕ) (file : List ℕ) (left : Option (List ℕ)) (place : ℕ) : Type 0 where
  pub stood : Standing
  pub plant : IsPlant file stood
  pub expected : IsExpected after stood
  pub script : List ℕ
  pub read : IsLeft left script
  pub asked : Asked
  pub asks : script_onto sched (declared_in stood) script ≡ Ok asked
  pub refused : IsFirstRefused asked.townships stood.records place

-- another place was expected than the last one, which is this
pub record IsUnexpected (after : Option ℕ) (file : List ℕ) (last : ℕ) : Type 0 where
  pub stood : Standing
  pub plant : IsPlant file stood
  pub last_is : last ≡ length stood.records
  pub expected : ℕ
  pub asked : after ≡ Some expected
  pub other : expected ≢ last

-- why a run is stopped
abbrev pub IsCause : Schedule → Option ℕ → (file : List ℕ) → (left : Option (List ℕ)) → (disk_failed source_failed sink_failed : Bool)
    → LastingFault → Type 0
IsCause sched after file left disk_failed source_failed sink_failed (fault.NotAPlant row) = IsNoPlant file row
IsCause sched after file left disk_failed source_failed sink_failed fault.Disk = disk_failed ≡ true
IsCause sched after file left disk_failed source_failed sink_failed fault.Unsure = disk_failed ≡ true
IsCause sched after file left disk_failed source_failed sink_failed (fault.After last) = IsUnexpected after file last
IsCause sched after file left disk_failed source_failed sink_failed (fault.Row n) = Refuses sched after file left (script_fault.Row n)
IsCause sched after file left disk_failed source_failed sink_failed (fault.Order n) = Refuses sched after file left (script_fault.Order n)
IsCause sched after file left disk_failed source_failed sink_failed (fault.Party n) = Refuses sched after file left (script_fault.Party n)
IsCause sched after file left disk_failed source_failed sink_failed fault.Read =
    (source_failed ≡ true) ⊎ IfSome left (λ script. most_bytes < length script)
IsCause sched after file left disk_failed source_failed sink_failed (fault.Joins place) = IsRefusedJoin sched after file left place
IsCause sched after file left disk_failed source_failed sink_failed fault.Write = sink_failed ≡ true
IsCause sched after file left disk_failed source_failed sink_failed fault.Memory = Unit {0}

-- ---- runs

-- A run: the file, before and after, what a crash may leave of it, and what a crash at any moment of the run left; what was left in the
-- source and its turns, before and after; what the sink has taken, before and after; which of the three have failed; and what the run
-- answers.
pub record Lasting {T : Type 0} (sched : Schedule) (after : Option ℕ) (file file_after : List ℕ) (may_leave : List ℕ → Type 0)
    (leaves : (List ℕ → Type 0) → Type 0) (left left_after : Option (List ℕ)) (turns turns_after : ℕ)
    (taken taken_after : Option (List ℕ)) (disk_failed source_failed sink_failed : Bool) (result : Result T LastingFault)
    : Type 0 where
  -- with Ok the day counts, and its report was written, and nothing else
  pub counts : OnOk result (Counts sched after file file_after may_leave leaves left (Appends taken taken_after))
  -- with Err nothing was lost, and nothing was told that doesn't count
  pub stopped : IfErr result (Leaves sched after file file_after may_leave leaves left taken taken_after)
  -- and the fault says why
  pub why : IfErr result (IsCause sched after file left disk_failed source_failed sink_failed)
  -- the script was read to its end, in no more turns than a script may take
  pub all : OnOk result (IsAtEnd left_after)
  pub within : IsReadWithin turns turns_after
