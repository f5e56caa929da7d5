-- The law is a lemma.
use Rattle.title_tree.specs.Laws.Joined.{tidied_where_written as lemma}
use Rattle.title_tree.proofs.laws.tidied_where_written.Goals as goal

pub returns : goal.returns
returns c = record { law = lemma }
