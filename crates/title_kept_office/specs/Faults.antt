-- Faults of offices' days on a plant's file that come of what is below.
use Rattle.title_script.specs.declared.fault.RunFault.TheVariants as run
use Rattle.title_day.specs.declared.office_fault.OfficeFault.{OfficeFault}
use Rattle.title_day.specs.declared.office_fault.OfficeFault.TheVariants as office
use Rattle.title_lasting.specs.declared.fault.LastingFault.TheVariants as fault
use Rattle.title_kept_office.specs.declared.fault.KeptOfficeFault.{KeptOfficeFault, TheVariants.{Kept, Worker, Unsettled}}

-- the office's day isn't kept
abbrev pub of_office : OfficeFault → KeptOfficeFault
of_office (office.Run (run.Row n)) = Kept (fault.Row n)
of_office (office.Run (run.Order n)) = Kept (fault.Order n)
of_office (office.Run (run.Party n)) = Kept (fault.Party n)
of_office (office.Run run.Read) = Kept fault.Read
of_office (office.Run run.Write) = Kept fault.Write
of_office (office.Run run.Memory) = Kept fault.Memory
of_office (office.Worker why) = Worker why
of_office (office.Unsettled why) = Unsettled why
