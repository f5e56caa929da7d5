-- The law is a lemma.
use Rattle.title_tree.specs.Laws.Swaps.{split_all_reaches as lemma}
use Rattle.title_tree.proofs.laws.split_all_reaches.Goals as goal

pub returns : goal.returns
returns c = record { law = lemma }
