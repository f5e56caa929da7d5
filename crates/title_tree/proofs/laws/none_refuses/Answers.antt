-- The law is a lemma.
use Rattle.title_tree.specs.Laws.Refusals.{none_refuses as lemma}
use Rattle.title_tree.proofs.laws.none_refuses.Goals as goal

pub returns : goal.returns
returns t c = record { law = lemma }
