-- The law is a lemma.
use Rattle.title_tree.specs.Laws.Swaps.{value_swapped as lemma}
use Rattle.title_tree.proofs.laws.swapped_shows.Goals as goal

pub returns : goal.returns
returns c = record { law = lemma }
