-- The posts of the steps so far are filed.
use Rattle.std.proofs.Common.{◌-◌, length}
use Rattle.title_land.specs.Depth.{depth}
use Rattle.title_chain.specs.TractIndexes.{AreReadFrom}
use Rattle.title_chain.proofs.filing.Filing.file_own.Given as goal

abbrev pub invariant-loop-step : goal.invariant-loop-step
invariant-loop-step l = AreReadFrom depth l.self l.steps

abbrev pub decreases-loop-step : goal.decreases-loop-step
decreases-loop-step l = length l.steps - l.self.read
