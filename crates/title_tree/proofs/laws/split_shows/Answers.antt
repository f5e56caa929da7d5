-- The law is a lemma.
use Rattle.title_tree.specs.Laws.Grafts.{value_split as lemma}
use Rattle.title_tree.proofs.laws.split_shows.Goals as goal

pub returns : goal.returns
returns c = record { law = lemma }
