-- The law is a lemma.
use Rattle.title_tree.specs.Laws.Images.{keeps_none as lemma}
use Rattle.title_tree.proofs.laws.none_is_kept.Goals as goal

pub returns : goal.returns
returns c = record { law = lemma }
