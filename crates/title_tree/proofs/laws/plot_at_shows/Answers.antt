-- The law is a lemma.
use Rattle.title_tree.specs.Laws.Grafts.{value_plot_at as lemma}
use Rattle.title_tree.proofs.laws.plot_at_shows.Goals as goal

pub returns : goal.returns
returns c = record { law = lemma }
