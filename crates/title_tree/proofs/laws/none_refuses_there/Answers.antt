-- The law is a lemma.
use Rattle.title_tree.specs.Laws.Refusals.{none_refuses_at as lemma}
use Rattle.title_tree.proofs.laws.none_refuses_there.Goals as goal

pub returns : goal.returns
returns t c = record { law = lemma }
