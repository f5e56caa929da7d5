-- What was left to show of `one_fault_at_most`.
use Rattle.title_aliquot.specs.Laws.Unique.{one_fault}
use Rattle.title_land.specs.Depth.{depth}
use Rattle.title_aliquot.proofs.laws.one_fault_at_most.Goals as goal

pub returns : goal.returns
returns c = record { law = one_fault depth }
