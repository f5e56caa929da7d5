-- What a look at a plant's file does, as a whole: a script that keeps nothing is served on top of what stands there. A file is seen by its
-- bytes, by what a crash may leave of it, and by what a crash at any moment of the look leaves.
use Rattle.std.specs.Prelude.{◌≡◌, ◌⊎◌, ◌++◌, ℕ, List, Bool, true, Option, Some, None, Result, IfErr, OnOk}
use Rattle.std.specs.Io.KnownBytes.{Appends, IsAtEnd, Keeps}
use Rattle.title_land.specs.Depth.{depth}
use Rattle.title_store.specs.Plants.{Plant}
use Rattle.title_chain.specs.{declared.record.Record.{Record}, Alone.{IsSerial}}
use Rattle.title_trace.specs.Trace.{committed}
use Rattle.title_desk.specs.{Headline.{Headline}, Told.{Books}}
use Rattle.title_plan.specs.{Asked.{Asked}, Onto.{Before}}
use Rattle.title_plan.specs.declared.fault.ScriptFault.TheVariants as script_fault
use Rattle.title_plan.specs.declared.line.Schedule.TheVariants as schedule
use Rattle.title_script.specs.{declared.told.Served.{Served}, Reports.{report_onto}, Runs.{IsReadWithin}, Told.{served_text}}
use Rattle.title_daybook.specs.{Files.{IsPlant}, Standing.{Standing}}
use Rattle.title_lasting.specs.{Days.{Day, declared_in, evening, report_on_day, setting_on}, LookRows.{other_in}}
use Rattle.title_lasting.specs.Lastings.{Begins, IsCause, IsExpected, IsLeft, IsServed, Refuses}
use Rattle.title_lasting.specs.{Made.{IsAsked, IsAtFault, IsUnread, served_at}, declared.fault.LastingFault.{LastingFault}}
use Rattle.title_lasting.specs.declared.fault.LastingFault.TheVariants as fault

-- ---- scripts

-- the source's script has rows that only look, and asks for this on top of what is declared
pub record IsLookAsked (before : Before) (left : Option (List ℕ)) (asked : Asked) : Type 0 where
  pub asks : IsAsked schedule.Serial before left asked
  pub looks : other_in asks.script ≡ None

-- in the source's script this row is the first that doesn't only look
pub record IsOther (left : Option (List ℕ)) (n : ℕ) : Type 0 where
  pub script : List ℕ
  pub read : IsLeft left script
  pub other : other_in script ≡ Some n

-- why a text has rows that don't only look, or can't be looked through
abbrev pub IsOtherText : List ℕ → LastingFault → Type 0
IsOtherText text (fault.Row n) = other_in text ≡ Some n
IsOtherText text fault.Memory = Unit {0}
IsOtherText text _ = ⊥

-- why the source's script isn't read: the source, a row that doesn't only look, or the script's first fault
abbrev pub IsLookUnread : Before → (left : Option (List ℕ)) → (source_failed : Bool) → LastingFault → Type 0
IsLookUnread before left source_failed (fault.Row n) = IsOther left n ⊎ IsAtFault schedule.Serial before left (script_fault.Row n)
IsLookUnread before left source_failed e = IsUnread schedule.Serial before left source_failed e

-- ---- looks at what stood

-- a look at a desk that has served what stood: the report is that of what was asked
pub record IsLookServed (desk : Books) (asked : Asked) (served : Served) : Type 0 where
  pub report : served_text served ≡ report_onto desk.setting desk.trace asked
  pub headline : (content : Plant) × Headline desk.setting (served_at desk asked) content (committed (served_at desk asked))

-- what a script of looks asks for on top of what stood makes a day, of which nothing is kept
abbrev pub look_day : Standing → Asked → Day
look_day before asked = record { before = before; asked = asked }

pub record IsLookOn (before : Standing) (left : Option (List ℕ)) (asked : Asked) : Type 0 where
  pub is_asked : IsLookAsked (declared_in before) left asked
  pub joined : IsSerial depth asked.townships before.records
  pub goes_on : (news : List Record) × (committed (evening (look_day before asked)) ≡ news ++ before.records)
  pub headline : (content : Plant)
      × Headline (setting_on (look_day before asked)) (evening (look_day before asked)) content
      (committed (evening (look_day before asked)))

-- the source's script was served on top of what stood, and what came of it is that day's report
abbrev pub IsLookMade : Standing → (left : Option (List ℕ)) → Served → Type 0
IsLookMade before left served =
    (asked : Asked) × IsLookOn before left asked × (served_text served ≡ report_on_day (look_day before asked))

-- so much of the report of a look was told
pub record IsLookTold (before : Standing) (left : Option (List ℕ)) (Told : List ℕ → Type 0) : Type 0 where
  pub asked : Asked
  pub look : IsLookOn before left asked
  pub report : Told (report_on_day (look_day before asked))

-- why a look at what stood is stopped
abbrev pub IsLookStop : Standing → (left : Option (List ℕ)) → (source_failed sink_failed : Bool) → LastingFault → Type 0
IsLookStop before left source_failed sink_failed fault.Write = sink_failed ≡ true
IsLookStop before left source_failed sink_failed e = IsLookUnread (declared_in before) left source_failed e

-- what it has written then: nothing, but for a beginning of the report where the sink failed
abbrev pub LeavesStanding : Standing → (left taken taken_after : Option (List ℕ)) → LastingFault → Type 0
LeavesStanding before left taken taken_after fault.Write = IsLookTold before left (Begins taken taken_after)
LeavesStanding before left taken taken_after _ = Keeps taken taken_after

-- A look at what stood: what was left in the source and its turns, before and after; what the sink has taken, before and after; which of
-- the two have failed; and what is answered.
pub record LooksAt {T : Type 0} (before : Standing) (left left_after : Option (List ℕ)) (turns turns_after : ℕ)
    (taken taken_after : Option (List ℕ)) (source_failed sink_failed : Bool) (result : Result T LastingFault) : Type 0 where
  pub told : OnOk result (IsLookTold before left (Appends taken taken_after))
  pub stopped : IfErr result (LeavesStanding before left taken taken_after)
  pub why : IfErr result (IsLookStop before left source_failed sink_failed)
  pub all : OnOk result (IsAtEnd left_after)
  pub within : IsReadWithin turns turns_after

-- ---- looks at a file

-- What stood in the file is what the look was told on top of: the source had its script, whose rows only look, and so much of its report
-- was told.
pub record Sees (after : Option ℕ) (file : List ℕ) (left : Option (List ℕ)) (Told : List ℕ → Type 0) : Type 0 where
  pub day : Day
  pub served : IsServed schedule.Serial after file left day
  pub looks : other_in served.script ≡ None
  pub report : Told (report_on_day day)

-- what a look that was stopped has written
abbrev pub LeavesLook : Option ℕ → (file : List ℕ) → (left taken taken_after : Option (List ℕ)) → LastingFault → Type 0
LeavesLook after file left taken taken_after fault.Write = Sees after file left (Begins taken taken_after)
LeavesLook after file left taken taken_after _ = Keeps taken taken_after

-- the source's script has this row that doesn't only look, where the last place is the expected one
pub record IsOtherOn (after : Option ℕ) (file : List ℕ) (left : Option (List ℕ)) (n : ℕ) : Type 0 where
  pub stood : Standing
  pub plant : IsPlant file stood
  pub expected : IsExpected after stood
  pub other : IsOther left n

-- why a look is stopped: as a run is; or by a row that doesn't only look. Nothing is put into the file, and no township joins
abbrev pub IsLookCause : Option ℕ → (file : List ℕ) → (left : Option (List ℕ)) → (disk_failed source_failed sink_failed : Bool)
    → LastingFault → Type 0
IsLookCause after file left disk_failed source_failed sink_failed (fault.Row n) =
    IsOtherOn after file left n ⊎ Refuses schedule.Serial after file left (script_fault.Row n)
IsLookCause after file left disk_failed source_failed sink_failed fault.Unsure = ⊥
IsLookCause after file left disk_failed source_failed sink_failed (fault.Joins place) = ⊥
IsLookCause after file left disk_failed source_failed sink_failed e =
    IsCause schedule.Serial after file left disk_failed source_failed sink_failed e

-- A look: the file, before and after; what a crash might have left of it before, and may leave after; what a crash at any moment of the
-- look left; what was left in the source and its turns, before and after; what the sink has taken, before and after; which of the three
-- have failed; and what is answered.
pub record Looking {T : Type 0} (after : Option ℕ) (file file_after : List ℕ) (may_leave may_leave_after : List ℕ → Type 0)
    (leaves : (List ℕ → Type 0) → Type 0) (left left_after : Option (List ℕ)) (turns turns_after : ℕ)
    (taken taken_after : Option (List ℕ)) (disk_failed source_failed sink_failed : Bool) (result : Result T LastingFault)
    : Type 0 where
  -- with Ok the report of the script on top of what stood was written, and nothing else
  pub sees : OnOk result (Sees after file left (Appends taken taken_after))
  -- with Err nothing was, but for a beginning of the report where the sink failed
  pub stopped : IfErr result (LeavesLook after file left taken taken_after)
  -- and the fault says why
  pub why : IfErr result (IsLookCause after file left disk_failed source_failed sink_failed)
  -- the file has its bytes, and a crash at no moment left what it might not have left before
  pub untouched : file_after ≡ file
  pub now : (c : List ℕ) → may_leave_after c → may_leave c
  pub any_moment : leaves may_leave
  -- the script was read to its end, in no more turns than a script may take
  pub all : OnOk result (IsAtEnd left_after)
  pub within : IsReadWithin turns turns_after
