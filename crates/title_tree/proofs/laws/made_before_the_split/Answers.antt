-- The law is a lemma.
use Rattle.title_tree.specs.Laws.Swaps.{fresh_split as lemma}
use Rattle.title_tree.proofs.laws.made_before_the_split.Goals as goal

pub returns : goal.returns
returns c = record { law = lemma }
