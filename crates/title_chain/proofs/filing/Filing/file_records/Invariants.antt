-- The posts of the records so far are filed.
use Rattle.std.proofs.Common.{◌-◌, length}
use Rattle.title_land.specs.Depth.{depth}
use Rattle.title_chain.specs.TractIndexes.{IsReadFrom}
use Rattle.title_chain.proofs.filing.Filing.file_records.Given as goal

abbrev pub invariant-loop-record : goal.invariant-loop-record
invariant-loop-record l = IsReadFrom depth l.self l.records

abbrev pub decreases-loop-record : goal.decreases-loop-record
decreases-loop-record l = length l.records - l.self.read
