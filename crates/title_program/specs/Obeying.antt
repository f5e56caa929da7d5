-- What each command line makes the program do.
use Rattle.std.specs.Prelude.{◌≡◌, ◌⊎◌, ℕ, List, [], Bool, true, false, Option, Result, Ok, Err, codes, take}
use Rattle.std.specs.Io.KnownBytes.{Appends, IsAtEnd, Keeps}
use Rattle.clap.specs.{Faults.{fault_of}, Words.{subcommand_of}}
use Rattle.title_land.specs.Depth.{depth}
use Rattle.title_plan.specs.Lands.{land_in}
use Rattle.title_plan.specs.declared.line.Schedule.TheVariants as schedule
use Rattle.title_command.specs.declared.choice.Line.{Line, TheVariants.{Run, Alone, Office, Desk, Tract, Kept, KeptDesk, KeptOffice}}
use Rattle.title_command.specs.declared.choice.{Line.TheVariants.{Look, LookDesk, Check}, LineFault.{LineFault}}
use Rattle.title_command.specs.declared.choice.LineFault.TheVariants.{Help, Bad, Memory}
use Rattle.title_command.specs.CommandLine.{Explains, IsLineOf, IsTaken, command}
use Rattle.title_disk.specs.declared.cabinet.OpenFault.TheVariants as opening
use Rattle.title_script.specs.Runs.{IsReadWithin}
use Rattle.title_program.specs.{declared.{words.WordsFault.{WordsFault}, status.Status.{Status}}, DeskServing.{IsDeskServed}}
use Rattle.title_program.specs.{declared.status.Status.TheVariants.{Success, Failure, Misunderstood}, Faults.{fault_line, memory, of_open}}
use Rattle.title_program.specs.{OfficeServing.{IsOfficeServed}, Printing.{Prints, TellsFault}, Serving.{IsServed}}
use Rattle.title_program.specs.Tracts.{tract_status, tract_text}
use Rattle.title_program.specs.declared.words.WordsFault.TheVariants as untaken

-- ---- a command

-- what the text says is printed, or that memory ran out
abbrev pub PrintsTract : (text : List ℕ) → (before after : Option (List ℕ)) → (sink_failed : Bool) → Status → Type 0
PrintsTract text before after sink_failed status =
    Prints (tract_text depth (land_in text)) (tract_status (land_in text)) before after sink_failed status
    ⊎ Prints (fault_line memory) Failure before after sink_failed status

-- the command was carried out; where there is no cabinet, no plant's file is opened
abbrev pub IsObeyed : Line → (left left_after : Option (List ℕ)) → (source_failed sink_failed : Bool) → (before after : Option (List ℕ))
    → Status → Type 0
IsObeyed Run left left_after source_failed sink_failed before after status =
    IsServed schedule.Interleaved left source_failed sink_failed before after status
IsObeyed Alone left left_after source_failed sink_failed before after status =
    IsServed schedule.Serial left source_failed sink_failed before after status
IsObeyed (Office examiners tries) left left_after source_failed sink_failed before after status =
    IsOfficeServed examiners left source_failed sink_failed before after status
IsObeyed Desk left left_after source_failed sink_failed before after status =
    IsDeskServed left left_after source_failed sink_failed before after status
IsObeyed (Tract text) left left_after source_failed sink_failed before after status =
    PrintsTract text.now before after sink_failed status
IsObeyed (Kept plant place how) left left_after source_failed sink_failed before after status =
    TellsFault (of_open opening.Unopened) before after sink_failed status
IsObeyed (KeptDesk plant) left left_after source_failed sink_failed before after status =
    TellsFault (of_open opening.Unopened) before after sink_failed status
IsObeyed (KeptOffice plant place examiners tries) left left_after source_failed sink_failed before after status =
    TellsFault (of_open opening.Unopened) before after sink_failed status
IsObeyed (Look plant place) left left_after source_failed sink_failed before after status =
    TellsFault (of_open opening.Unopened) before after sink_failed status
IsObeyed (LookDesk plant) left left_after source_failed sink_failed before after status =
    TellsFault (of_open opening.Unopened) before after sink_failed status
IsObeyed (Check file as_script) left left_after source_failed sink_failed before after status =
    TellsFault (of_open opening.Unopened) before after sink_failed status

-- a script whose report was written has been read to its end, and so have rows whose answers were; `tract` reads nothing, and neither does
-- a command whose file isn't opened
abbrev pub ReadsFor : Line → (left left_after : Option (List ℕ)) → Status → Type 0
ReadsFor Run left left_after status = status ≡ Success → IsAtEnd left_after
ReadsFor Alone left left_after status = status ≡ Success → IsAtEnd left_after
ReadsFor (Office examiners tries) left left_after status = status ≡ Success → IsAtEnd left_after
ReadsFor Desk left left_after status = status ≡ Success → IsAtEnd left_after
ReadsFor (Tract text) left left_after status = left_after ≡ left
ReadsFor (Kept plant place how) left left_after status = left_after ≡ left
ReadsFor (KeptDesk plant) left left_after status = left_after ≡ left
ReadsFor (KeptOffice plant place examiners tries) left left_after status = left_after ≡ left
ReadsFor (Look plant place) left left_after status = left_after ≡ left
ReadsFor (LookDesk plant) left left_after status = left_after ≡ left
ReadsFor (Check file as_script) left left_after status = left_after ≡ left

-- the source was read in no more turns than a script is, but at a desk, where it is read for as long as rows come
abbrev pub TurnsFor : Line → (turns turns_after : ℕ) → Type 0
TurnsFor Desk turns turns_after = Unit {0}
TurnsFor (KeptDesk plant) turns turns_after = Unit {0}
TurnsFor (LookDesk plant) turns turns_after = Unit {0}
TurnsFor line turns turns_after = IsReadWithin turns turns_after

-- what is told on the errors where the output has failed
abbrev pub unwritten : List ℕ
unwritten = codes "error: the report can't be written\n"

-- a failed output is told on the errors, as far as these take it, and nothing else is
abbrev pub Complains : (sink_failed : Bool) → (before after : Option (List ℕ)) → Type 0
Complains false before after = Keeps before after
Complains true before after = (n : ℕ) × Appends before after (take n unwritten)

-- ---- words that are no command

-- help is shown, or memory ran out
abbrev pub PrintsHelp : (before after : Option (List ℕ)) → (sink_failed : Bool) → Status → Type 0
PrintsHelp before after sink_failed status =
    ((text : List ℕ) × Prints text Success before after sink_failed status)
    ⊎ Prints (fault_line memory) Failure before after sink_failed status

-- words that aren't understood leave the output as it was
abbrev pub IsRefused : LineFault → (before after : Option (List ℕ)) → (sink_failed : Bool) → Status → Type 0
IsRefused (Help error) before after sink_failed status = PrintsHelp before after sink_failed status
IsRefused (Bad error) before after sink_failed status = (after ≡ before) × (status ≡ Misunderstood)
IsRefused Memory before after sink_failed status = Prints (fault_line memory) Failure before after sink_failed status

-- why words aren't understood is told on the errors; else only a failed output is
abbrev pub Warns : LineFault → (sink_failed : Bool) → (before after : Option (List ℕ)) → Type 0
Warns (Help error) sink_failed before after = Complains sink_failed before after
Warns (Bad error) sink_failed before after = (text : List ℕ) × Appends before after text
Warns Memory sink_failed before after = Complains sink_failed before after

-- ---- words that can't be taken

-- a word that isn't text is one that isn't understood
abbrev pub IsUntaken : WordsFault → (before after : Option (List ℕ)) → (sink_failed : Bool) → Status → Type 0
IsUntaken untaken.NotText before after sink_failed status = (after ≡ before) × (status ≡ Misunderstood)
IsUntaken untaken.Memory before after sink_failed status = Prints (fault_line memory) Failure before after sink_failed status

-- what is told on the errors, as far as these take it
abbrev pub WarnsUntaken : WordsFault → (sink_failed : Bool) → (before after : Option (List ℕ)) → Type 0
WarnsUntaken untaken.NotText sink_failed before after =
    (n : ℕ) × Appends before after (take n (codes "error: a word of the command line isn't UTF-8\n"))
WarnsUntaken untaken.Memory sink_failed before after = Complains sink_failed before after

-- ---- the words

-- what the words ask for, or why they are none, as the command line's reader tells it
abbrev pub IsAsked : List (List ℕ) → Result Line LineFault → Type 0
IsAsked words (Ok line) = IsLineOf (subcommand_of command words) line × (fault_of command words ≡ [])
IsAsked words (Err why) = Explains words why × (IsTaken words → why ≡ Memory)

-- what was asked for was done, or refused
abbrev pub IsAnswered : Result Line LineFault → (left left_after : Option (List ℕ)) → (source_failed sink_failed : Bool)
    → (before after : Option (List ℕ)) → Status → Type 0
IsAnswered (Ok line) left left_after source_failed sink_failed before after status =
    IsObeyed line left left_after source_failed sink_failed before after status
IsAnswered (Err why) left left_after source_failed sink_failed before after status = IsRefused why before after sink_failed status

-- what was asked for reads the source; words that are no command don't
abbrev pub Reads : Result Line LineFault → (left left_after : Option (List ℕ)) → Status → Type 0
Reads (Ok line) left left_after status = ReadsFor line left left_after status
Reads (Err why) left left_after status = left_after ≡ left

-- in so many turns; words that are no command read nothing
abbrev pub Turns : Result Line LineFault → (turns turns_after : ℕ) → Type 0
Turns (Ok line) turns turns_after = TurnsFor line turns turns_after
Turns (Err why) turns turns_after = IsReadWithin turns turns_after

-- what is told on the errors
abbrev pub Tells : Result Line LineFault → (sink_failed : Bool) → (before after : Option (List ℕ)) → Type 0
Tells (Ok line) sink_failed before after = Complains sink_failed before after
Tells (Err why) sink_failed before after = Warns why sink_failed before after
