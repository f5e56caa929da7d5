-- What a look at a plant's file leaves.
use Rattle.std.specs.Prelude.{◌≡◌, ℕ, List, Bool, true, false, Option, Result, Ok, Err, OnOk}
use Rattle.title_disk.specs.declared.cabinet.OpenFault.{OpenFault}
use Rattle.title_daybook.specs.{Files.{IsPlant}, Standing.{Standing}}
use Rattle.title_lasting.specs.{declared.checking.TellFault.{TellFault}, Tells.{IsScript, Telling, script_text, standing_text}}
use Rattle.title_lasting.specs.declared.checking.TellFault.TheVariants as fault
use Rattle.title_program.specs.{declared.status.Status.{Status, TheVariants.{Success, Failure}}, Faults.{of_open, of_telling}}
use Rattle.title_program.specs.Printing.{TellsFault}

-- a file was refused for a reason that it may be refused for: its fault is told
pub record IsUnseen (refuses : OpenFault → Type 0) (before after : Option (List ℕ)) (sink_failed : Bool) (status : Status) : Type 0 where
  pub fault : OpenFault
  pub refused : refuses fault
  pub told : TellsFault (of_open fault) before after sink_failed status

-- what tells what stands in a file: its numbers, or a script
abbrev pub telling_text : (as_script : Bool) → List ℕ → Standing → List ℕ
telling_text false file s = standing_text file s
telling_text true file s = script_text s

-- nothing follows what was told on the output, or where the output has failed; else the fault is told by its line, or want of memory in
-- its place
abbrev pub ChecksBy : {T : Type 0} → Result T TellFault → (before after : Option (List ℕ)) → (then_failed sink_failed : Bool) → Status
    → Type 0
ChecksBy (Ok answer) before after then_failed sink_failed status = (after ≡ before) × (sink_failed ≡ then_failed) × (status ≡ Success)
ChecksBy (Err fault.Write) before after then_failed sink_failed status =
    (after ≡ before) × (sink_failed ≡ then_failed) × (status ≡ Failure)
ChecksBy (Err e) before after then_failed sink_failed status = TellsFault (of_telling e) before after sink_failed status

-- a file may be read so, and what stands in these bytes was told
pub record IsSeen (shows : List ℕ → Type 0) (as_script : Bool) (taken taken_after : Option (List ℕ)) (sink_failed : Bool) (status : Status)
    : Type 0 where
  pub file : List ℕ
  pub shown : shows file
  -- what the output had taken at the end of the telling, and which of file and output had failed
  pub written : Option (List ℕ)
  pub disk_failed : Bool
  pub then_failed : Bool
  pub outcome : Result (Unit {0}) TellFault
  pub telling : Telling file (telling_text as_script file) taken written disk_failed then_failed outcome
  pub script : as_script ≡ true → OnOk outcome ((s : Standing) × IsPlant file s × IsScript (script_text s))
  pub told : ChecksBy outcome written taken_after then_failed sink_failed status
