-- Faults of runs that come of reading.
use Rattle.title_device.specs.declared.fault.ReadFault.{ReadFault}
use Rattle.title_device.specs.declared.fault.ReadFault.TheVariants as reading
use Rattle.title_plan.specs.declared.fault.ScriptFault.{ScriptFault}
use Rattle.title_plan.specs.declared.fault.ScriptFault.TheVariants as script
use Rattle.title_script.specs.declared.fault.RunFault.{RunFault, TheVariants.{Row, Read, Party, Order, Memory}}

-- the fault of a run whose source wasn't read to its end
abbrev pub of_reading : ReadFault → RunFault
of_reading reading.Read = Read
of_reading reading.Memory = Memory

-- the fault of a run whose script is at fault
abbrev pub of_script : ScriptFault → RunFault
of_script (script.Row n) = Row n
of_script (script.Order n) = Order n
of_script (script.Party n) = Party n
of_script script.Memory = Memory
