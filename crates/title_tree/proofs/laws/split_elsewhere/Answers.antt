-- The law is a lemma.
use Rattle.title_tree.specs.Laws.Grafts.{plot_at_split as lemma}
use Rattle.title_tree.proofs.laws.split_elsewhere.Goals as goal

pub returns : goal.returns
returns c = record { law = lemma }
