-- The law of meets_at_a_cell.
use Rattle.title_land.specs.{Laws.TractSharing.{meets_at_a_cell as lemma}, Depth.{depth}}
use Rattle.title_land.proofs.sharing.meets_at_a_cell.Goals as goal

pub returns : goal.returns
returns c = record { law = lemma depth }
