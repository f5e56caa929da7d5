-- What a day has made before any of it is written.
use Rattle.std.specs.Prelude.{◌≡◌, ◌⊎◌, ◌<◌, ◌++◌, ℕ, List, Bool, true, Option, Some, None, IfSome}
use Rattle.std.specs.Prelude.{Result, Ok, Err, [], ◌+◌, drop, length, reverse}
use Rattle.title_land.specs.{Depth.{depth}, declared.survey.Township.{Township}}
use Rattle.title_device.specs.Limits.{most_bytes}
use Rattle.title_store.specs.Plants.{Plant}
use Rattle.title_chain.specs.{declared.record.Record.{Record}, Alone.{IsSerial}}
use Rattle.title_trace.specs.{declared.call.Call.{Call}, Trace.{committed}}
use Rattle.title_desk.specs.{Headline.{Headline}, Told.{Books}}
use Rattle.title_journal.specs.{Blocks.{IsBlock}, Rest.{with_block}}
use Rattle.title_plan.specs.{Asked.{Asked}, declared.{fault.ScriptFault.{ScriptFault}, line.Schedule.{Schedule}}}
use Rattle.title_plan.specs.Onto.{Before, script_onto}
use Rattle.title_plan.specs.declared.fault.ScriptFault.TheVariants as script_fault
use Rattle.title_script.specs.{ReportLaws.{after_lines}, Reports.{report_onto}, Told.{served_text}}
use Rattle.title_daybook.specs.{Added.{rows_of, text_of}, Files.{standing_after}, Standing.{Standing}, declared.writing.Stood.{Stood}}
use Rattle.title_lasting.specs.{Days.{Day, declared_in, evening, report_on_day, setting_on, stands_after}, Refusals.{IsFirstRefused}}
use Rattle.title_lasting.specs.{declared.{fault.LastingFault.{LastingFault}, serving.Made.{Made}}, Kept.{text_in}, Lastings.{IsLeft}}
use Rattle.title_lasting.specs.declared.fault.LastingFault.TheVariants as fault

-- with the block, or with none, what stands after the day stands behind what stood before
abbrev pub Adds : Option (List ℕ) → Standing → Standing → Type 0
Adds None before after = after ≡ before
Adds (Some block) before after =
    IsBlock block
    × ((stood : Result (List (List ℕ)) ℕ) → standing_after stood ≡ Ok before → standing_after (with_block block stood) ≡ Ok after)

-- so much stood
pub record HasStood (stood : Stood) (before : Standing) : Type 0 where
  pub townships : stood.townships ≡ length before.townships
  pub names : stood.parties ≡ length before.names
  pub records : stood.records ≡ length before.records

-- a block, or none, by which what stands after the day stands behind what stood; none where that is the same
pub record IsNew (block : Option (List ℕ)) (before after : Standing) : Type 0 where
  pub adds : Adds block before after
  pub quiet : after ≡ before → block ≡ None

-- behind what stood nothing is declared, and nothing committed; the oldest record is the first
abbrev pub IsNothingNew : Stood → List Township → (names : List (List ℕ)) → List Record → Type 0
IsNothingNew stood townships names records =
    (length townships ≡ stood.townships) × (length names ≡ stood.parties) × (drop stood.records records ≡ [])

-- the block that adds to what stood what is declared and committed behind it; none where nothing is new
abbrev pub IsAddedBlock : Stood → List Township → (names : List (List ℕ)) → List Record → Option (List ℕ) → Type 0
IsAddedBlock stood townships names records None = IsNothingNew stood townships names records
IsAddedBlock stood townships names records (Some text) =
    (IsNothingNew stood townships names records → ⊥)
    × (text ≡ text_of names (rows_of (drop stood.townships townships) (drop stood.parties names) (drop stood.records records)
    (stood.records + length (drop stood.records records))))

-- what a desk comes to by a script's steps
abbrev pub served_at : Books → Asked → List Call
served_at desk asked = after_lines desk.setting desk.trace asked.lines

-- the report and the block are those of what was asked at a desk that has served what stood
pub record IsServedAt (desk : Books) (stood : Stood) (asked : Asked) (made : Made) : Type 0 where
  pub report : served_text made.served ≡ report_onto desk.setting desk.trace asked
  pub headline :
      (content : Plant) × Headline desk.setting (served_at desk asked) content (committed (served_at desk asked))
  pub block : IsAddedBlock stood asked.townships asked.names (reverse (committed (served_at desk asked))) (text_in made.block)

-- the source's script made this day of what stood before: the report and the block are those of the day
pub record IsMade (sched : Schedule) (before : Standing) (left : Option (List ℕ)) (made : Made) : Type 0 where
  pub day : Day
  pub stood : day.before ≡ before
  pub script : List ℕ
  pub read : IsLeft left script
  pub asks : script_onto sched (declared_in before) script ≡ Ok day.asked
  pub joined : IsSerial depth day.asked.townships before.records
  pub goes_on : (news : List Record) × (committed (evening day) ≡ news ++ before.records)
  pub headline : (content : Plant) × Headline (setting_on day) (evening day) content (committed (evening day))
  pub report : served_text made.served ≡ report_on_day day
  pub serial : IsSerial depth day.asked.townships (stands_after day).records
  pub is_new : IsNew (text_in made.block) before (stands_after day)

-- the source's script is read on top of what is declared, and asks for this
pub record IsAsked (sched : Schedule) (before : Before) (left : Option (List ℕ)) (asked : Asked) : Type 0 where
  pub script : List ℕ
  pub read : IsLeft left script
  pub asks : script_onto sched before script ≡ Ok asked

-- the source's script has this fault on top of what is declared
pub record IsAtFault (sched : Schedule) (before : Before) (left : Option (List ℕ)) (e : ScriptFault) : Type 0 where
  pub script : List ℕ
  pub read : IsLeft left script
  pub first_fault : script_onto sched before script ≡ Err e

-- why the source's script isn't read: the source, or the script's first fault
abbrev pub IsUnread : Schedule → Before → (left : Option (List ℕ)) → (source_failed : Bool) → LastingFault → Type 0
IsUnread sched before left source_failed (fault.Row n) = IsAtFault sched before left (script_fault.Row n)
IsUnread sched before left source_failed (fault.Order n) = IsAtFault sched before left (script_fault.Order n)
IsUnread sched before left source_failed (fault.Party n) = IsAtFault sched before left (script_fault.Party n)
IsUnread sched before left source_failed fault.Read =
    (source_failed ≡ true) ⊎ IfSome left (λ script. most_bytes < length script)
IsUnread sched before left source_failed fault.Memory = Unit {0}
IsUnread sched before left source_failed _ = ⊥

-- why records aren't served under more townships: memory ran out, or the one in this place is the first that can't be
abbrev pub IsUnjoined : List Township → List Record → LastingFault → Type 0
IsUnjoined townships records (fault.Joins place) = IsFirstRefused townships records place
IsUnjoined townships records fault.Memory = Unit {0}
IsUnjoined townships records _ = ⊥

-- the source's script declares townships under which the record in this place can't stand
pub record IsRefusing (sched : Schedule) (before : Standing) (left : Option (List ℕ)) (place : ℕ) : Type 0 where
  pub asked : Asked
  pub is_asked : IsAsked sched (declared_in before) left asked
  pub refused : IsFirstRefused asked.townships before.records place

-- why no day is made of what stood
abbrev pub IsUnmade : Schedule → Standing → (left : Option (List ℕ)) → (source_failed : Bool) → LastingFault → Type 0
IsUnmade sched before left source_failed (fault.Joins place) = IsRefusing sched before left place
IsUnmade sched before left source_failed e = IsUnread sched (declared_in before) left source_failed e
