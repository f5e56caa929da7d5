-- The law is a lemma.
use Rattle.title_tree.specs.Laws.Refusals.{some_refuses_at as lemma}
use Rattle.title_tree.proofs.laws.a_cell_refuses.Goals as goal

pub returns : goal.returns
returns t c = record { law = lemma }
