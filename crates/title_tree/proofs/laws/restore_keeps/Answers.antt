-- The law is a lemma.
use Rattle.title_tree.specs.Laws.Images.{keeps_restored as lemma}
use Rattle.title_tree.proofs.laws.restore_keeps.Goals as goal

pub returns : goal.returns
returns c = record { law = lemma }
