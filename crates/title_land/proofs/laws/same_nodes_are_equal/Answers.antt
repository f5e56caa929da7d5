-- The law same nodes are equal.
use Rattle.title_land.specs.Laws.NodeSharing.{same_nodes_are_equal as lemma}
use Rattle.title_land.proofs.laws.same_nodes_are_equal.Goals as goal

pub returns : goal.returns
returns c = record { law = lemma }
