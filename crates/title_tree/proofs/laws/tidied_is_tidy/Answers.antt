-- The law is a lemma.
use Rattle.title_tree.specs.Laws.Joined.{tidied_tidy as lemma}
use Rattle.title_tree.proofs.laws.tidied_is_tidy.Goals as goal

pub returns : goal.returns
returns c = record { law = lemma }
