-- The law is a lemma.
use Rattle.title_tree.specs.Laws.Depths.{fits_plot_at as lemma}
use Rattle.title_tree.proofs.laws.plot_at_fits.Goals as goal

pub returns : goal.returns
returns c = record { law = lemma }
