-- What was left to show of `no_fault_beside_a_land`.
use Rattle.title_aliquot.specs.Laws.Unique.{no_fault}
use Rattle.title_land.specs.Depth.{depth}
use Rattle.title_aliquot.proofs.laws.no_fault_beside_a_land.Goals as goal

pub returns : goal.returns
returns c = record { law = no_fault depth }
