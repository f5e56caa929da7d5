-- The law is a lemma.
use Rattle.title_tree.specs.Laws.Images.{after_put as lemma}
use Rattle.title_tree.proofs.laws.put_keeps.Goals as goal

pub returns : goal.returns
returns c = record { law = lemma }
