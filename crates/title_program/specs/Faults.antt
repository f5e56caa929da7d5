-- The lines of faults: `fault,N`, or `fault,N,DETAIL` where the fault stands at a row of a script, at a byte of a text, at an examiner
-- or at the place of a record.
use Rattle.std.specs.{Prelude.{ℕ, List, ◌++◌, Option, None, Some, codes}, Fmt.{decimal}}
use Rattle.title_aliquot.specs.{declared.fault.DescFault.{DescFault}, Faults.{number_of}}
use Rattle.title_aliquot.specs.declared.fault.DescFault.TheVariants as description
use Rattle.title_trace.specs.declared.denial.Denial.{Denial}
use Rattle.title_trace.specs.declared.denial.Denial.TheVariants as denial
use Rattle.title_settle.specs.declared.outcome.Unsettled.{Unsettled}
use Rattle.title_settle.specs.declared.outcome.Unsettled.TheVariants as unsettled
use Rattle.title_office.specs.declared.fault.Fault.{Fault as WorkerFault}
use Rattle.title_office.specs.declared.fault.Fault.TheVariants as worker
use Rattle.title_counter.specs.declared.fault.CounterFault.{CounterFault}
use Rattle.title_counter.specs.declared.fault.CounterFault.TheVariants as desk
use Rattle.title_disk.specs.declared.cabinet.OpenFault.{OpenFault}
use Rattle.title_disk.specs.declared.cabinet.OpenFault.TheVariants as opening
use Rattle.title_lasting.specs.declared.{checking.TellFault.{TellFault}, fault.LastingFault.{LastingFault}}
use Rattle.title_lasting.specs.declared.checking.TellFault.TheVariants as telling
use Rattle.title_lasting.specs.declared.fault.LastingFault.TheVariants as lasting
use Rattle.title_script.specs.declared.fault.RunFault.{RunFault}
use Rattle.title_script.specs.declared.fault.RunFault.TheVariants as run
use Rattle.title_day.specs.declared.office_fault.OfficeFault.{OfficeFault}
use Rattle.title_day.specs.declared.office_fault.OfficeFault.TheVariants as office
use Rattle.title_program.specs.declared.fault.Fault.{Fault}

-- a fault of this number that stands here
abbrev pub text_of : ℕ → Option ℕ → List ℕ
text_of number None = codes "fault," ++ decimal number
text_of number (Some detail) = codes "fault," ++ decimal number ++ codes "," ++ decimal detail

-- the text of a fault
abbrev pub fault_text : Fault → List ℕ
fault_text f = text_of f.number f.detail

-- the line of a fault, with the line feed that ends it
abbrev pub fault_line : Fault → List ℕ
fault_line f = fault_text f ++ codes "\n"

-- want of memory
abbrev pub memory : Fault
memory = record { number = 6; detail = None }

-- a description's bad text stands at its byte
abbrev pub byte_of : DescFault → Option ℕ
byte_of (description.BadText byte) = Some byte
byte_of description.Range = None
byte_of description.TooSmall = None
byte_of description.Lots = None
byte_of description.Overlap = None
byte_of description.Memory = None

-- the fault of a description
abbrev pub of_description : DescFault → Fault
of_description f = record { number = number_of f; detail = byte_of f }

-- the fault of a run: 31 to 35 are those of a script, which stand at its row, and of its devices
abbrev pub of_run : RunFault → Fault
of_run (run.Row row) = record { number = 31; detail = Some row }
of_run run.Read = record { number = 32; detail = None }
of_run run.Write = record { number = 33; detail = None }
of_run (run.Party row) = record { number = 34; detail = Some row }
of_run (run.Order row) = record { number = 35; detail = Some row }
of_run run.Memory = memory

-- the numbers of a call's refusals
abbrev pub number_of_denial : Denial → ℕ
number_of_denial denial.NotOpen = 1
number_of_denial denial.AlreadyOpen = 2
number_of_denial (denial.Invalid cause) = 3
number_of_denial (denial.Conflict examiner) = 4
number_of_denial denial.TooLong = 5
number_of_denial denial.NoSuchTownship = 26

-- the numbers of the faults with which an examiner's worker may end
abbrev pub number_of_worker : WorkerFault → ℕ
number_of_worker (worker.Denied why) = number_of_denial why
number_of_worker worker.Memory = 6
number_of_worker worker.Stranger = 7
number_of_worker worker.NoThread = 9

-- the fault of a worker has its number alone
abbrev pub of_worker : WorkerFault → Fault
of_worker f = record { number = number_of_worker f; detail = None }

-- why an office isn't settled: 41 stands at the least examiner whose transaction is open, 42 to 45 at the place of a record
abbrev pub of_unsettled : Unsettled → Fault
of_unsettled (unsettled.Open examiner) = record { number = 41; detail = Some examiner }
of_unsettled (unsettled.Unknown place) = record { number = 42; detail = Some place }
of_unsettled (unsettled.Missing place) = record { number = 43; detail = Some place }
of_unsettled (unsettled.Doubled place) = record { number = 44; detail = Some place }
of_unsettled (unsettled.Different place) = record { number = 45; detail = Some place }
of_unsettled unsettled.Memory = memory

-- the fault of an office's run: that of its script or its devices, of a worker, or of its settling
abbrev pub of_office : OfficeFault → Fault
of_office (office.Run why) = of_run why
of_office (office.Worker why) = of_worker why
of_office (office.Unsettled why) = of_unsettled why

-- rows at a desk aren't attended to: they can't be read, or their answers can't be written
abbrev pub of_desk : CounterFault → Fault
of_desk desk.Read = record { number = 32; detail = None }
of_desk desk.Write = record { number = 33; detail = None }
of_desk desk.Memory = memory

-- a plant's file isn't opened
abbrev pub of_open : OpenFault → Fault
of_open opening.Unopened = record { number = 36; detail = None }
of_open opening.InUse = record { number = 37; detail = None }
of_open opening.Memory = memory

-- a script isn't served on top of a plant's file: 38 stands at a row of the file, 46 and 47 at the place of a transaction there
abbrev pub of_lasting : LastingFault → Fault
of_lasting (lasting.Row row) = record { number = 31; detail = Some row }
of_lasting lasting.Read = record { number = 32; detail = None }
of_lasting lasting.Write = record { number = 33; detail = None }
of_lasting (lasting.Party row) = record { number = 34; detail = Some row }
of_lasting (lasting.Order row) = record { number = 35; detail = Some row }
of_lasting (lasting.NotAPlant row) = record { number = 38; detail = Some row }
of_lasting lasting.Disk = record { number = 39; detail = None }
of_lasting lasting.Unsure = record { number = 40; detail = None }
of_lasting (lasting.Joins place) = record { number = 46; detail = Some place }
of_lasting (lasting.After last) = record { number = 47; detail = Some last }
of_lasting lasting.Memory = memory

-- what stands in a plant's file isn't told: 48 stands at a row of the script that would tell it
abbrev pub of_telling : TellFault → Fault
of_telling telling.Write = record { number = 33; detail = None }
of_telling telling.Disk = record { number = 36; detail = None }
of_telling (telling.NotAPlant row) = record { number = 38; detail = Some row }
of_telling (telling.NoScript row) = record { number = 48; detail = Some row }
of_telling telling.Memory = memory
