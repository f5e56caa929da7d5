-- The law is a lemma.
use Rattle.title_tree.specs.Laws.Grafts.{has_below as lemma}
use Rattle.title_tree.proofs.laws.nodes_below.Goals as goal

pub returns : goal.returns
returns c = record { law = lemma }
