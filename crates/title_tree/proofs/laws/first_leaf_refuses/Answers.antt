-- The law is a lemma.
use Rattle.title_tree.specs.Laws.Refusals.{first_leaf_refuses as lemma}
use Rattle.title_tree.proofs.laws.first_leaf_refuses.Goals as goal

pub returns : goal.returns
returns t c = record { law = lemma }
