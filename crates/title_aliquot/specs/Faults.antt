-- The numbers of faults in reports.
use Rattle.std.specs.Prelude.{ℕ}
use Rattle.title_aliquot.specs.declared.fault.DescFault.{DescFault}
use Rattle.title_aliquot.specs.declared.fault.DescFault.TheVariants as fault

abbrev pub number_of : DescFault → ℕ
number_of (fault.BadText byte) = 21
number_of fault.Range = 22
number_of fault.TooSmall = 23
number_of fault.Lots = 24
number_of fault.Overlap = 25
number_of fault.Memory = 6
