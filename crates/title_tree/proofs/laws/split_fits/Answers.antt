-- The law is a lemma.
use Rattle.title_tree.specs.Laws.Depths.{fits_split as lemma}
use Rattle.title_tree.proofs.laws.split_fits.Goals as goal

pub returns : goal.returns
returns c = record { law = lemma }
