-- The law is a lemma.
use Rattle.title_tree.specs.Laws.Uniform.{uniform_is_held as lemma}
use Rattle.title_tree.proofs.laws.uniform_is_held.Goals as goal

pub returns : goal.returns
returns c = record { law = lemma }
