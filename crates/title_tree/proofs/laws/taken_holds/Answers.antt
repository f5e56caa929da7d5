-- The law is a lemma.
use Rattle.title_tree.specs.Laws.Swaps.{held_taken as lemma}
use Rattle.title_tree.proofs.laws.taken_holds.Goals as goal

pub returns : goal.returns
returns c = record { law = lemma }
