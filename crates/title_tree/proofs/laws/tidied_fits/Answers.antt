-- The law is a lemma.
use Rattle.title_tree.specs.Laws.Depths.{fits_tidied as lemma}
use Rattle.title_tree.proofs.laws.tidied_fits.Goals as goal

pub returns : goal.returns
returns c = record { law = lemma }
