-- The law cover nodes lie apart.
use Rattle.title_land.specs.{Laws.CoverSet.{cover_nodes_apart as lemma}, Depth.{depth}}
use Rattle.title_land.proofs.laws.cover_nodes_lie_apart.Goals as goal

pub returns : goal.returns
returns c = record { law = lemma depth }
