-- The law is a lemma.
use Rattle.title_tree.specs.Laws.Images.{keeps_less as lemma}
use Rattle.title_tree.proofs.laws.forget_keeps.Goals as goal

pub returns : goal.returns
returns c = record { law = lemma }
