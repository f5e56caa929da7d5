-- The law is a lemma.
use Rattle.title_tree.specs.Laws.Images.{put_held as lemma}
use Rattle.title_tree.proofs.laws.put_takes.Goals as goal

pub returns : goal.returns
returns c = record { law = lemma }
