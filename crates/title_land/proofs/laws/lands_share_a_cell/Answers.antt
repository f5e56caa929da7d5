-- The law lands share a cell.
use Rattle.title_land.specs.{Laws.LandSharing.{lands_share as lemma}, Depth.{depth}}
use Rattle.title_land.proofs.laws.lands_share_a_cell.Goals as goal

pub returns : goal.returns
returns c = record { law = lemma depth }
