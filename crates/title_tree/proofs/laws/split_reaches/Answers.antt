-- The law is a lemma.
use Rattle.title_tree.specs.Laws.Grafts.{split_has as lemma}
use Rattle.title_tree.proofs.laws.split_reaches.Goals as goal

pub returns : goal.returns
returns c = record { law = lemma }
