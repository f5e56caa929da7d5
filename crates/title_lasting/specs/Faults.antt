-- Faults of runs on top of a plant's file that come of what is below.
use Rattle.title_daybook.specs.declared.fault.PlantFault.{PlantFault}
use Rattle.title_daybook.specs.declared.fault.PlantFault.TheVariants as plant
use Rattle.title_device.specs.declared.fault.ReadFault.{ReadFault}
use Rattle.title_device.specs.declared.fault.ReadFault.TheVariants as reading
use Rattle.title_journal.specs.declared.fault.{JournalFault.{JournalFault}, PutFault.{PutFault}}
use Rattle.title_journal.specs.declared.fault.JournalFault.TheVariants as journal
use Rattle.title_journal.specs.declared.fault.PutFault.TheVariants as put
use Rattle.title_plan.specs.declared.fault.ScriptFault.{ScriptFault}
use Rattle.title_plan.specs.declared.fault.ScriptFault.TheVariants as script
use Rattle.title_lasting.specs.declared.{checking.TellFault.{TellFault}, fault.LastingFault.{LastingFault}}
use Rattle.title_lasting.specs.declared.fault.LastingFault.TheVariants.{Disk, Memory, NotAPlant, Order, Party, Read, Row, Unsure}
use Rattle.title_lasting.specs.declared.checking.TellFault.TheVariants as tell

-- the blocks of the file aren't read
abbrev pub of_journal : JournalFault → LastingFault
of_journal journal.Memory = Memory
of_journal journal.Failed = Disk
of_journal (journal.NotAPlant row) = NotAPlant row

-- what stands in its blocks isn't read
abbrev pub of_plant : PlantFault → LastingFault
of_plant (plant.Row row) = NotAPlant row
of_plant plant.Memory = Memory

-- the block isn't put into the file
abbrev pub of_put : PutFault → LastingFault
of_put put.Before = Disk
of_put put.Unsure = Unsure

-- the source isn't read to its end
abbrev pub of_reading : ReadFault → LastingFault
of_reading reading.Read = Read
of_reading reading.Memory = Memory

-- its script is at fault
abbrev pub of_script : ScriptFault → LastingFault
of_script (script.Row n) = Row n
of_script (script.Order n) = Order n
of_script (script.Party n) = Party n
of_script script.Memory = Memory

-- what stands isn't told, since the file isn't opened
abbrev pub of_opening : LastingFault → TellFault
of_opening (NotAPlant row) = tell.NotAPlant row
of_opening Disk = tell.Disk
of_opening _ = tell.Memory
