-- What a desk does whose rows come by and by on top of a plant's file, as a whole. The file is seen by its bytes, before and after; by
-- what a crash may leave of it after; and by what a crash at any moment of the run leaves.
use Rattle.std.specs.Prelude.{◌≡◌, ◌⊎◌, ◌<◌, ◌++◌, ℕ, List, Bool, true, Option, IfSome, Result, IfErr, OnOk, length, take}
use Rattle.std.specs.Io.KnownBytes.{Appends, Consumes, IsAtEnd, Keeps}
use Rattle.title_chain.specs.declared.record.Record.{Record}
use Rattle.title_trace.specs.Trace.{committed}
use Rattle.title_disk.specs.Crashes.{Only}
use Rattle.title_daybook.specs.{Files.{IsPlant}, Standing.{Standing}}
use Rattle.title_counter.specs.{Counters.{Counter}, Limits.{most_given}, Lines.{all_lines, lines_in}, Sessions.{Answers, Ends, IsSound}}
use Rattle.title_lasting.specs.{declared.fault.LastingFault.{LastingFault}, Lastings.{Stays}, Openings.{IsNoPlant, StandsAs}}
use Rattle.title_kept_desk.specs.Sittings.{HasAt, HasAtEither, HasPart, end_text, opening_on}
use Rattle.title_lasting.specs.declared.fault.LastingFault.TheVariants as fault

-- Lines were served on top of what stood, and answered by this text. At each moment a crash left a file that has what the first so many
-- of them came to; and what is committed goes on from what stood.
pub record IsServedOn (before : Standing) (leaves : (List ℕ → Type 0) → Type 0) (lines : List (List ℕ)) (text : List ℕ) (after : Counter)
    : Type 0 where
  pub answers : Answers (opening_on before) lines text after
  pub any_moment : leaves (HasPart (opening_on before) lines text after)
  pub sound : IsSound after
  pub goes_on : (news : List Record) × (committed after.trace ≡ news ++ before.records)

module _ (file file_after : List ℕ) (may_leave : List ℕ → Type 0) (leaves : (List ℕ → Type 0) → Type 0)
    (left left_after taken taken_after : Option (List ℕ)) where
  -- All that was left in the source was given. Its lines were served, and the text of their answers and the last row were written. What
  -- they have committed and declared is on the disk. Open transactions were aborted, and then the headline is true.
  pub record IsAnsweredOnto : Type 0 where
    pub before : Standing
    pub stood : IsPlant file before
    pub given : List ℕ
    pub consumed : Consumes left left_after given
    pub text : List ℕ
    pub after : Counter
    pub served : IsServedOn before leaves (all_lines given) text after
    pub written : Appends taken taken_after (text ++ end_text after)
    pub stands : HasAt after file_after
    pub durable : Only file_after may_leave
    pub ends : Ends after

  -- So much was given, the answers to all whole lines in it were written, and what these have committed and declared is on the disk: no
  -- answer waits for more.
  pub record IsAtOnceOnto : Type 0 where
    pub before : Standing
    pub stood : IsPlant file before
    pub given : List ℕ
    pub consumed : Consumes left left_after given
    pub text : List ℕ
    pub after : Counter
    pub served : IsServedOn before leaves (lines_in given).whole text after
    pub written : Appends taken taken_after text
    pub stands : HasAt after file_after
    pub durable : Only file_after may_leave

  -- So much was given. Of the answers to its whole lines, or to all its lines, perhaps with the last row, a beginning was written; what the
  -- lines have committed and declared is on the disk, told or not.
  pub record IsBegunOnto : Type 0 where
    pub before : Standing
    pub stood : IsPlant file before
    pub given : List ℕ
    pub consumed : Consumes left left_after given
    pub lines : List (List ℕ)
    pub lines_are : (lines ≡ (lines_in given).whole) ⊎ (lines ≡ all_lines given)
    pub text : List ℕ
    pub after : Counter
    pub served : IsServedOn before leaves lines text after
    pub all : List ℕ
    pub all_is : (all ≡ text) ⊎ (all ≡ text ++ end_text after)
    pub count : ℕ
    pub written : Appends taken taken_after (take count all)
    pub stands : HasAt after file_after
    pub durable : Only file_after may_leave

  -- So much was given. The answers to its first lines were written, and what these have committed and declared is what a crash may leave
  -- now, and nothing of the others.
  pub record IsUntold : Type 0 where
    pub before : Standing
    pub stood : IsPlant file before
    pub given : List ℕ
    pub consumed : Consumes left left_after given
    pub first : List (List ℕ)
    pub more : List (List ℕ)
    pub lines_are : all_lines given ≡ first ++ more
    pub text : List ℕ
    pub after : Counter
    pub served : IsServedOn before leaves first text after
    pub written : Appends taken taken_after text
    pub now : (c : List ℕ) → may_leave c → HasAt after c

  -- So much was given. The answers to its first lines were written; what these have committed and declared is what a crash may leave now,
  -- alone or with that of the lines of a batch of which nothing was told.
  pub record IsUnsureOnto : Type 0 where
    pub before : Standing
    pub stood : IsPlant file before
    pub given : List ℕ
    pub consumed : Consumes left left_after given
    pub first : List (List ℕ)
    pub batch : List (List ℕ)
    pub more : List (List ℕ)
    pub lines_are : all_lines given ≡ (first ++ batch) ++ more
    pub text : List ℕ
    pub told : Counter
    pub answers : Answers (opening_on before) first text told
    pub rest : List ℕ
    pub after : Counter
    pub served : IsServedOn before leaves (first ++ batch) (text ++ rest) after
    pub written : Appends taken taken_after text
    pub now : (c : List ℕ) → may_leave c → HasAtEither told after c

  -- nothing was given, and nothing written
  abbrev pub IsUntouched : Type 0
  IsUntouched = Keeps left left_after × Keeps taken taken_after

  -- what stands after a fault: before the first row what stood stands
  abbrev pub LeavesDesk : LastingFault → Type 0
  LeavesDesk (fault.NotAPlant row) = Stays file file_after may_leave leaves × (file_after ≡ file) × IsUntouched
  LeavesDesk fault.Disk = (leaves (StandsAs file) × IsUntouched) ⊎ IsUntold
  LeavesDesk fault.Memory = (Stays file file_after may_leave leaves × IsUntouched) ⊎ IsUntold
  LeavesDesk fault.Unsure = IsUnsureOnto
  LeavesDesk fault.Read = IsAtOnceOnto
  LeavesDesk fault.Write = IsBegunOnto
  LeavesDesk _ = ⊥

-- why a desk is stopped: the file is no plant; the disk, the source or the sink has failed, or the source gave more bytes than anybody
-- waits for; or memory was wanted
abbrev pub IsDeskCause : (file : List ℕ) → (left : Option (List ℕ)) → (disk_failed source_failed sink_failed : Bool) → LastingFault → Type 0
IsDeskCause file left disk_failed source_failed sink_failed (fault.NotAPlant row) = IsNoPlant file row
IsDeskCause file left disk_failed source_failed sink_failed fault.Disk = disk_failed ≡ true
IsDeskCause file left disk_failed source_failed sink_failed fault.Unsure = disk_failed ≡ true
IsDeskCause file left disk_failed source_failed sink_failed fault.Read =
    (source_failed ≡ true) ⊎ IfSome left (λ bytes. most_given < length bytes)
IsDeskCause file left disk_failed source_failed sink_failed fault.Write = sink_failed ≡ true
IsDeskCause file left disk_failed source_failed sink_failed fault.Memory = Unit {0}
IsDeskCause file left disk_failed source_failed sink_failed _ = ⊥

-- A desk on top of a plant's file: the file, before and after, what a crash may leave of it, and what a crash at any moment of the run
-- left; what was left in the source, before and after; what the sink has taken, before and after; which of the three have failed; and what
-- is answered.
pub record LastingDesk {T : Type 0} (file file_after : List ℕ) (may_leave : List ℕ → Type 0) (leaves : (List ℕ → Type 0) → Type 0)
    (left left_after taken taken_after : Option (List ℕ)) (disk_failed source_failed sink_failed : Bool) (result : Result T LastingFault)
    : Type 0 where
  -- with Ok all rows were answered, and what they committed and declared is on the disk
  pub answers : OnOk result (IsAnsweredOnto file file_after may_leave leaves left left_after taken taken_after)
  pub all : OnOk result (IsAtEnd left_after)
  -- with Err nothing was told that doesn't stand
  pub stopped : IfErr result (LeavesDesk file file_after may_leave leaves left left_after taken taken_after)
  -- and the fault says why
  pub why : IfErr result (IsDeskCause file left disk_failed source_failed sink_failed)
