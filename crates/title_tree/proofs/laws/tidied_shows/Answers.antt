-- The law is a lemma.
use Rattle.title_tree.specs.Laws.Uniform.{tidied_shows as lemma}
use Rattle.title_tree.proofs.laws.tidied_shows.Goals as goal

pub returns : goal.returns
returns c = record { law = lemma }
