-- The law cover finds the node.
use Rattle.title_land.specs.{Laws.CoverSet.{cover_finds as lemma}, Depth.{depth}}
use Rattle.title_land.proofs.laws.cover_finds_the_node.Goals as goal

pub returns : goal.returns
returns c = record { law = lemma depth }
