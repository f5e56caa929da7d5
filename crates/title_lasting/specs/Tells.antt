-- What stands in a plant's file, told in numbers or as a script.
use Rattle.std.specs.Prelude.{◌≡◌, ◌⊎◌, ◌<◌, ◌+◌, ◌++◌, suc, ℕ, List, [], ◌∷◌, Bool, true, Option, Some, None, Result, Ok, Err, IfErr, OnOk}
use Rattle.std.specs.{Prelude.{◌-◌, ◌^◌, codes, drop, length, map, min, reverse, sum, take}, Fmt.{decimal}, List.{flat_map}}
use Rattle.std.specs.Io.KnownBytes.{Appends, Keeps}
use Rattle.title_chain.specs.declared.record.Record.{Record}
use Rattle.title_device.specs.Limits.{most_bytes}
use Rattle.title_journal.specs.Blocks.{rows_in}
use Rattle.title_page.specs.Rows.{rows_text}
use Rattle.title_plan.specs.{declared.{fault.ScriptFault.{ScriptFault}, line.Line.{Line}}, Asked.{Asked}, Plans.{script_of}}
use Rattle.title_plan.specs.declared.fault.ScriptFault.TheVariants as script_fault
use Rattle.title_plan.specs.declared.line.Line.TheVariants as line
use Rattle.title_plan.specs.declared.line.Schedule.TheVariants as schedule
use Rattle.title_spelling.specs.Rows.{PlantRow}
use Rattle.title_spelling.specs.Rows as plant
use Rattle.title_daybook.specs.{Added.{record_rows, text_of}, Files.{IsPlant}, Standing.{Standing}}
use Rattle.title_lasting.specs.{Lastings.{Begins}, Openings.{IsNoPlant, cut_in}, declared.checking.TellFault.{TellFault}}
use Rattle.title_lasting.specs.declared.checking.TellFault.TheVariants as fault

-- ---- in numbers

-- a row `WORD,NUMBER`
abbrev pub count_row : List ℕ → ℕ → List (List ℕ)
count_row word n = word ∷ decimal n ∷ []

-- the posts of records
abbrev pub posts_in : List Record → ℕ
posts_in records = sum (map (λ r. length r.steps) records)

-- numbers are told up to the greatest of 64 bits
abbrev pub told_number : ℕ → ℕ
told_number n = min n (2 ^ 64 - 1)

-- what stands, in numbers: the transactions are numbered by their places, so theirs is the last place; of the tail, the bytes that don't
-- count
abbrev pub standing_rows : Standing → (tail : ℕ) → List (List (List ℕ))
standing_rows s tail =
    count_row (codes "townships") (length s.townships) ∷ count_row (codes "parties") (length s.names)
    ∷ count_row (codes "transactions") (length s.records) ∷ count_row (codes "posts") (told_number (posts_in s.records))
    ∷ count_row (codes "tail") tail ∷ []

-- ---- as a script

-- a script of transactions one after another, declarations first, on which a new file would come to stand for the same: the rows of the
-- block that adds all of it to UNITED STATES alone, but for the end of the block
abbrev pub script_rows : Standing → List PlantRow
script_rows s = map plant.Township s.townships ++ map plant.Party (drop 1 s.names) ++ flat_map record_rows (reverse s.records)

abbrev pub script_text : Standing → List ℕ
script_text s = text_of s.names (script_rows s)

-- the first of some steps whose description is none, the first step standing in the n-th row
abbrev pub undescribed : ℕ → List Line → Option ℕ
undescribed n [] = None
undescribed n (line.Described e why ∷ lines) = Some n
undescribed n (_ ∷ lines) = undescribed (n + 1) lines

-- the row of the first step of a script: before it stand its declarations, of UNITED STATES none
abbrev pub first_step : Asked → ℕ
first_step asked = length asked.townships + length asked.names

-- a script asks for all of it, each step with a description
abbrev pub IsScript : List ℕ → Type 0
IsScript text = (asked : Asked) × (script_of schedule.Serial text ≡ Ok asked) × (undescribed (first_step asked) asked.lines ≡ None)

-- the row that a fault of a script names
abbrev pub named_row : ScriptFault → Option ℕ
named_row (script_fault.Row n) = Some n
named_row (script_fault.Order n) = Some n
named_row (script_fault.Party n) = Some n
named_row script_fault.Memory = None

-- a text is no such script, by this row: it has more bytes than a script may have, and the row isn't whole among the first of them; the
-- row is at fault, as the first of more than a script may have; or its description is none, as that of a tract by its cells
abbrev pub IsNoScript : List ℕ → ℕ → Type 0
IsNoScript text row =
    ((most_bytes < length text) × (row ≡ suc (rows_in (take most_bytes text))))
    ⊎ (((e : ScriptFault) × (script_of schedule.Serial text ≡ Err e) × (named_row e ≡ Some row))
    ⊎ ((asked : Asked) × (script_of schedule.Serial text ≡ Ok asked) × (undescribed (first_step asked) asked.lines ≡ Some row)))

-- ---- what is told

-- a file is a plant, and so much of the text that tells it was told
abbrev pub IsToldBy : List ℕ → (Standing → List ℕ) → (List ℕ → Type 0) → Type 0
IsToldBy file text Told = (s : Standing) × IsPlant file s × Told (text s)

-- what is written where telling is stopped: nothing, but for a beginning where the sink failed
abbrev pub LeavesTold : List ℕ → (Standing → List ℕ) → (taken taken_after : Option (List ℕ)) → TellFault → Type 0
LeavesTold file text taken taken_after fault.Write = IsToldBy file text (Begins taken taken_after)
LeavesTold file text taken taken_after _ = Keeps taken taken_after

-- why it is
abbrev pub StopsTelling : List ℕ → (disk_failed sink_failed : Bool) → TellFault → Type 0
StopsTelling file disk_failed sink_failed (fault.NotAPlant row) = IsNoPlant file row
StopsTelling file disk_failed sink_failed fault.Disk = disk_failed ≡ true
StopsTelling file disk_failed sink_failed (fault.NoScript row) = (s : Standing) × IsPlant file s × IsNoScript (script_text s) row
StopsTelling file disk_failed sink_failed fault.Memory = Unit {0}
StopsTelling file disk_failed sink_failed fault.Write = sink_failed ≡ true

-- What stands in a file, told by a text: the file; what the sink has taken, before and after; whether the disk and the sink have failed;
-- and what is answered.
pub record Telling {T : Type 0} (file : List ℕ) (text : Standing → List ℕ) (taken taken_after : Option (List ℕ))
    (disk_failed sink_failed : Bool) (result : Result T TellFault) : Type 0 where
  pub told : OnOk result (IsToldBy file text (Appends taken taken_after))
  pub stopped : IfErr result (LeavesTold file text taken taken_after)
  pub why : IfErr result (StopsTelling file disk_failed sink_failed)

-- the numbers of what stands in a file, as a text
abbrev pub standing_text : List ℕ → Standing → List ℕ
standing_text file s = rows_text (standing_rows s (cut_in file))
