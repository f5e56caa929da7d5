-- The law nodes share a cell.
use Rattle.title_land.specs.{Laws.NodeSharing.{nodes_share as lemma}, Depth.{depth}}
use Rattle.title_land.proofs.laws.nodes_share_a_cell.Goals as goal

pub returns : goal.returns
returns c = record { law = lemma depth }
