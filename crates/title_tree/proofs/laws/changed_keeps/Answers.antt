-- The law is a lemma.
use Rattle.title_tree.specs.Laws.Grafts.{has_changed as lemma}
use Rattle.title_tree.proofs.laws.changed_keeps.Goals as goal

pub returns : goal.returns
returns c = record { law = lemma }
