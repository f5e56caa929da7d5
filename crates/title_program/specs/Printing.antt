-- What a command leaves on an output.
use Rattle.std.specs.{Prelude.{◌≡◌, ◌⊎◌, ℕ, List, Bool, true, false, Option, take}, Io.KnownBytes.{Appends}}
use Rattle.title_program.specs.{declared.{fault.Fault.{Fault}, status.Status.{Status, TheVariants.{Failure}}}, Faults.{fault_line, memory}}

-- the text was written and the program ends so; where the output has failed, a beginning of the text was written, which is a failure
abbrev pub Prints : (text : List ℕ) (wanted : Status) (before after : Option (List ℕ)) (failed : Bool) → Status → Type 0
Prints text wanted before after false status = Appends before after text × (status ≡ wanted)
Prints text wanted before after true status = ((n : ℕ) × Appends before after (take n text)) × (status ≡ Failure)

-- the line of the fault was printed, or that memory ran out
abbrev pub TellsFault : Fault → (before after : Option (List ℕ)) (failed : Bool) → Status → Type 0
TellsFault fault before after failed status =
    Prints (fault_line fault) Failure before after failed status ⊎ Prints (fault_line memory) Failure before after failed status
